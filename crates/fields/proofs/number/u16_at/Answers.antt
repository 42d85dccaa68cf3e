-- The library's number of these bytes is the field's.
use native.Mathlib.Omega.{arith}
use Rattle.fields.proofs.NumberLaws.{u16_bytes}
use Rattle.fields.proofs.number.u16_at.Goals as goal

pub returns : goal.returns
returns c =
    let a = c.args in
    omega (arith, c.from_le_bytes.ensures, u16_bytes a.s.now a.at c.requires)
