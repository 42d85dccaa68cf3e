-- Four numbers are read, and written reversed one behind the other.
use Prim.Native.Nat.{◌+◌}
use mathlib.Core.Path.{◌∙◌}
use native.Mathlib.Omega.{arith}
use Rattle.fields.specs.Number.{u32_at}
use Rattle.fields.proofs.NumberLaws.{bytes_of}
use Rattle.fields.proofs.TurnedNumberLaws.{le32-turned, sixteen_turned}
use Rattle.fields.proofs.turning.turn_sixteen.Goals as goal

pub returns : goal.returns
returns c =
    let a = c.args in
    c.put_u32-4.ensures
    ∙ rw (c.put_u32-3.ensures, c.put_u32-2.ensures, c.put_u32.ensures, c.turned_number-d.ensures, c.u32_at-4.ensures, c.turned_number-c.ensures, c.u32_at-3.ensures, c.turned_number-b.ensures, c.u32_at-2.ensures, c.turned_number-a.ensures, c.u32_at.ensures, le32-turned (u32_at a.from.now a.at), le32-turned (u32_at a.from.now (a.at + 4)), le32-turned (u32_at a.from.now (a.at + 8)), le32-turned (u32_at a.from.now (a.at + 12)))
    (sixteen_turned a.to.now a.from.now a.at (bytes_of a.from.now c.type_inv.from) (omega (arith, c.requires)))
