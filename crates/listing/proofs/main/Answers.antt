-- Whatever came, the text lies inside the buffer that it is printed from.
use Rattle.std.proofs.Common.{sym, arith}
use lib.Seq.{length-take-le}
use Rattle.lines.proofs.OutputLaws.{prints_within}
use Rattle.listing.proofs.main.Goals as goal

pub slice_bounds-text-end : goal.slice_bounds-text-end
slice_bounds-text-end c = prints_within _ _ c.put_output-output.ensures (omega arith)

pub slice_bounds-printed-end : goal.slice_bounds-printed-end
slice_bounds-printed-end c = sym (length-take-le _ _ (prints_within _ _ c.put_output-output.ensures (omega arith)))
