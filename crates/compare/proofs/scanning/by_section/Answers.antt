-- A section that is left matches nothing; of a kept one the raw data is lent on.
use mathlib.Core.Path.{◌∙◌}
use Rattle.compare.proofs.ScanLaws.{left_matches, kept_matches}
use Rattle.compare.proofs.scanning.by_section.Goals as goal

pub returns-in-Some : goal.returns-in-Some
returns-in-Some c = c.matching.ensures ∙ rw c.bytes_of.ensures (kept_matches c.args.file.now _ _ _ c.in-Some.ensures)

pub returns-in-None : goal.returns-in-None
returns-in-None c = left_matches c.args.file.now _ _ c.in-None.ensures
