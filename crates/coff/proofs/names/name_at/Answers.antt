-- Which of the two it is, the eight bytes tell; those that stand in the header are counted there.
use mathlib.Core.Path.{◌≡◌}
use mathlib.Core.Bool.{false}
use native.Mathlib.Omega.{arith}
use Prim.Native.Nat.{ℕ}
use lib.ListN.{length-take}
use Rattle.patterns.proofs.ZeroLaws.{up_to_zero_short}
use Rattle.coff.specs.Names.{is_in_table}
use Rattle.coff.proofs.NameLaws.{in_header}
use Rattle.coff.proofs.names.name_at.Goals.{Else-far}
use Rattle.coff.proofs.names.name_at.Goals as goal

pub in_table-requires : goal.in_table-requires
unfolding is_in_table
in_table-requires c = rw (← c.u32_at.ensures, ← c.u32_at-2.ensures) c.if-far.true

near : (k : Else-far) → is_in_table k.args.header.now.file.now k.args.header.now.at ≡ false
unfolding is_in_table
near k = rw (← k.u32_at.ensures, ← k.u32_at-2.ensures) k.if-far.false

pub slice_bounds-result-end : goal.slice_bounds-result-end
slice_bounds-result-end c = omega (arith, length-take {A = ℕ}, up_to_zero_short)

pub returns : goal.returns
returns c =
    let header = c.args.header.now in
    in_header header.file.now header.at (near (goal.at.returns c).Else-far) _ (omega arith) _ c.before_zero.ensures
