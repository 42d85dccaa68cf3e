-- Taken is yes; all other answers are no, from the start on.
use mathlib.Core.Path.{sym}
use Rattle.patterns.proofs.StepLaws.{not_taken}
use Rattle.patterns.proofs.matching.takes.Goals as goal

pub returns-in_default : goal.returns-in_default
returns-in_default c = sym (not_taken _ _ _ c.in_default.not-Taken c.literal_step.ensures)
