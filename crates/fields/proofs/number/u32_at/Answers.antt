-- The library's number of these bytes is the field's.
use native.Mathlib.Omega.{arith}
use Rattle.fields.proofs.NumberLaws.{u32_bytes}
use Rattle.fields.proofs.number.u32_at.Goals as goal

pub returns : goal.returns
returns c =
    let a = c.args in
    omega (arith, c.from_le_bytes.ensures, u32_bytes a.s.now a.at c.requires)
