use mathlib.Core.Path.{◌≡◌, sym, ◌∙◌}
use mathlib.Core.Bool.{true, false}
use native.Mathlib.Omega.{arith}
use lib.ListN.{length}
use Rattle.ranges.specs.Cover.{nearest_but}
use Rattle.ranges.proofs.CoverLaws.{least_none, least_turn, nearest_below}
use Rattle.ranges.proofs.held.Held.nearest.Goals.{then-away-least, else-away-least}
use Rattle.ranges.proofs.held.Held.nearest.Goals as goal

pub loop-k-init : goal.loop-k-init
loop-k-init c = (c.other_than-found.ensures.0 ∙ sym (least_none _ _ _), c.gap-least.ensures)

pub loop-k-preserved : goal.loop-k-preserved
loop-k-preserved c =
    elim c.if-away-least.branch [
      | then-away-least w ↦ least_turn _ _ _ _ _ _ _ c.loop-k.invariant c.gap-away.ensures true w.if-away-least.true _ _ w.found-is w.least-is
      | else-away-least w ↦ least_turn _ _ _ _ _ _ _ c.loop-k.invariant c.gap-away.ensures false w.if-away-least.false _ _ w.found-is w.least-is
    ]

pub returns : goal.returns
unfolding nearest_but
returns c =
    let e : c.loop-k.k ≡ length c.args.self.firsts.now = omega arith in
    let is : c.loop-k.found ≡ nearest_but c.args.self.firsts.now c.args.self.lasts.now c.args.span.first c.args.span.last c.args.but = rw e at c.loop-k.invariant.0 in
    let below = nearest_below c.args.self.firsts.now c.args.self.lasts.now c.requires c.args.span.first c.args.span.last c.args.but in
    (is, omega (arith, is, below))
