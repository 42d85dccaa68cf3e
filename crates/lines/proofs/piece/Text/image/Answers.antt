-- The pieces of the line, put one behind the other.
use Rattle.lines.specs.Text.{image_line}
use Rattle.lines.proofs.PutLaws.{puts_then}
use Rattle.lines.proofs.piece.Text.image.Goals as goal

pub returns : goal.returns
unfolding image_line
returns c =
    puts_then c.word.ensures
    (puts_then c.decimal.ensures
    c.word-2.ensures)
