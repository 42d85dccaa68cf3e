-- The pieces of the line, put one behind the other.
use Rattle.lines.specs.Text.{section_line}
use Rattle.lines.proofs.PutLaws.{puts_then}
use Rattle.lines.proofs.piece.Text.section.Goals as goal

pub returns : goal.returns
unfolding section_line
returns c =
    puts_then c.decimal.ensures
    (puts_then c.word.ensures
    (puts_then c.hex.ensures
    (puts_then c.word-2.ensures
    (puts_then c.hex-2.ensures
    (puts_then c.word-3.ensures
    (puts_then c.decimal-2.ensures
    c.word-4.ensures))))))
