-- The bytes of the number take the place of the part lent.
use Prim.Native.Nat.{◌+◌, ◌-◌}
use mathlib.Core.Path.{◌≡◌, ◌∙◌}
use native.Mathlib.Omega.{arith}
use Rattle.fields.specs.Number.{le32}
use Rattle.fields.proofs.NumberLaws.{length-le32, to_le32}
use Rattle.fields.proofs.PatchLaws.{part_written}
use Rattle.fields.proofs.number.put_u32.Goals as goal

pub returns : goal.returns
returns c =
    let a = c.args in
    let e : a.at + 4 - a.at ≡ 4 = omega arith in
    let written : c.copy_from_slice.new.self ≡ le32 a.n = c.copy_from_slice.ensures.after ∙ c.to_le_bytes.ensures ∙ to_le32 a.n in
    rw (e, written) (part_written a.at 4 a.s.now (le32 a.n) (length-le32 a.n) (omega (arith, c.requires)))
