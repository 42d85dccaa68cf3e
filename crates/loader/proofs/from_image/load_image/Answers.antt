-- The order's own rule refuses, or leaves the load as it is.
use mathlib.Core.Path.{sym, ◌∙◌}
use Rattle.loader.proofs.LoadingLaws.{ends, no_order, in_order_lem}
use Rattle.loader.proofs.from_image.load_image.Goals as goal

pub returns-then-is_no_order : goal.returns-then-is_no_order
returns-then-is_no_order c =
    rw c.into.ensures (no_order _ _ _ _ (sym c.is_no_order.ensures ∙ c.if-is_no_order.true) _)

pub returns : goal.returns
returns c =
    rw (in_order_lem _ _ _ _ (sym c.is_no_order.ensures ∙ c.if-is_no_order.false))
    (ends _ _ _ c.load_ordered.ensures.answers c.load_ordered.ensures.leaves)
