-- The pieces of the line, put one behind the other.
use Rattle.lines.specs.Text.{refusal_line}
use Rattle.lines.proofs.PutLaws.{puts_then}
use Rattle.lines.proofs.piece.Text.refusal.Goals as goal

pub returns : goal.returns
unfolding refusal_line
returns c =
    rw (← c.code.ensures)
    (puts_then c.word.ensures
    (puts_then c.decimal.ensures
    (puts_then c.word-2.ensures
    (puts_then c.decimal-2.ensures
    c.word-3.ensures))))
