-- The four bytes at the place are taken as a number, and that is reversed where the row has it so.
use mathlib.Core.Path.{◌∙◌}
use Rattle.fields.proofs.NumberLaws.{bytes_of}
use Rattle.ranges.proofs.RowLaws.{number-turned, number_plain}
use Rattle.ranges.proofs.row.number_at.Goals as goal

pub returns-then-row : goal.returns-then-row
returns-then-row c =
    let a = c.args in
    c.turned_number.ensures
    ∙ rw c.u32_at-n.ensures (number-turned a.row a.s.now a.at c.if-row.true (bytes_of a.s.now c.type_inv.s) c.requires)

pub returns-else-row : goal.returns-else-row
returns-else-row c = c.u32_at-n.ensures ∙ number_plain _ _ _ c.if-row.false
