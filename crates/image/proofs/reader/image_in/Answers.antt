-- The order's own rule refuses, or leaves the answer as it is.
use mathlib.Core.Path.{sym, ◌∙◌}
use Rattle.image.proofs.InOrderLaws.{reading_refused_in, reading_passed}
use Rattle.image.proofs.reader.image_in.Goals as goal

pub returns-then-is_no_order : goal.returns-then-is_no_order
returns-then-is_no_order c =
    let all = reading_refused_in _ _ (sym c.is_no_order.ensures ∙ c.if-is_no_order.true) in
    rw c.into.ensures (record { answers = all.0; numbers = all.1; image = tt })

pub returns : goal.returns
returns c =
    rw (reading_passed _ _ (sym c.is_no_order.ensures ∙ c.if-is_no_order.false)) (record { answers = c.read.ensures.answers; numbers = c.read.ensures.numbers; image = c.read.ensures.image })
