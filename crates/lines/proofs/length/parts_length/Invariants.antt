-- The lines of the first i sections are as long as what was summed.
use mathlib.Core.Path.{◌≡◌}
use lib.ListN.{length}
use Rattle.fields.specs.Counting.{joined}
use Rattle.coff.specs.Handed.{part_in}
use Rattle.lines.specs.Text.{lines_of}
use Rattle.lines.proofs.length.parts_length.Given as goal

abbrev pub invariant-loop-i : goal.invariant-loop-i
invariant-loop-i l = l.total ≡ length (lines_of (joined (part_in l.file) l.i))
