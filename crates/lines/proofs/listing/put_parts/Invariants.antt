-- The lines of the first i sections are put.
use Rattle.fields.specs.Counting.{joined}
use Rattle.coff.specs.Handed.{part_in}
use Rattle.lines.specs.Text.{lines_of}
use Rattle.lines.specs.Put.{Puts}
use Rattle.lines.proofs.listing.put_parts.Given as goal

abbrev pub invariant-loop-i : goal.invariant-loop-i
invariant-loop-i l = Puts l.initial.text (lines_of (joined (part_in l.file) l.i)) l.text
