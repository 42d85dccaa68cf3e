-- The number falls with each call.
use Rattle.lines.proofs.piece.+put_decimal.Given as goal

abbrev pub decreases-put_decimal : goal.decreases-put_decimal
decreases-put_decimal l = l.n
