use mathlib.Core.Path.{◌≡◌, sym}
use mathlib.Core.Bool.{true, false}
use native.Mathlib.Omega.{arith}
use lib.ListN.{length}
use borrow.Author.Tests.{lt-ltb, le-ltb, ne_eqb}
use Rattle.ranges.specs.Cover.{closest_of}
use Rattle.ranges.proofs.CoverLaws.{least_none, least_turn, closest_below}
use Rattle.ranges.proofs.held.Held.closest.Goals.{then-away-least, else-away-least}
use Rattle.ranges.proofs.held.Held.closest.Goals as goal

pub loop-k-init : goal.loop-k-init
loop-k-init c = (sym (least_none _ _ _), c.apart-least.ensures)

pub loop-k-preserved : goal.loop-k-preserved
loop-k-preserved c =
    let other = ne_eqb c.loop-k.k (length c.args.self.firsts.now) (λ e. absurd (omega arith)) in
    elim c.if-away-least.branch [
      | then-away-least w ↦ least_turn _ _ _ _ _ _ _ c.loop-k.invariant c.apart-away.ensures true (rw (other, lt-ltb _ _ w.if-away-least.true)) _ _ w.found-is w.least-is
      | else-away-least w ↦ least_turn _ _ _ _ _ _ _ c.loop-k.invariant c.apart-away.ensures false (rw (le-ltb _ _ w.if-away-least.false)) _ _ w.found-is w.least-is
    ]

pub returns : goal.returns
unfolding closest_of
returns c =
    let e : c.loop-k.k ≡ length c.args.self.firsts.now = omega arith in
    let is : c.loop-k.found ≡ closest_of c.args.self.firsts.now c.args.self.lasts.now = rw e at c.loop-k.invariant.0 in
    let below = closest_below c.args.self.firsts.now c.args.self.lasts.now c.requires in
    (is, omega (arith, is, below))
