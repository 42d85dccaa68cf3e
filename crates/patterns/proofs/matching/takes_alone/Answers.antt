-- Its length is asked first.
use mathlib.Core.Path.{sym, ◌∙◌}
use Rattle.patterns.proofs.RowLaws.{alone_not, alone_takes}
use Rattle.patterns.proofs.matching.takes_alone.Goals as goal

pub returns-then-not-is_no_length : goal.returns-then-not-is_no_length
returns-then-not-is_no_length c =
    c.takes.ensures ∙ sym (alone_takes _ _ (sym c.is_no_length.ensures ∙ c.if-not-is_no_length.true))

pub returns-else-not-is_no_length : goal.returns-else-not-is_no_length
returns-else-not-is_no_length c =
    rw c.if-not-is_no_length.false (alone_not _ _ (sym c.is_no_length.ensures ∙ c.if-not-is_no_length.false))
