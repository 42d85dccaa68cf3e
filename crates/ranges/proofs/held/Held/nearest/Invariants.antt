-- One range more is looked at in each turn.
use mathlib.Core.Path.{◌≡◌}
use mathlib.Core.Bool.{cond}
use lib.Dec.{eqb}
use Rattle.ranges.specs.Cover.{gap_to, least_but}
use Rattle.ranges.proofs.held.Held.nearest.Given as goal

abbrev pub invariant-loop-k : goal.invariant-loop-k
invariant-loop-k l = (l.found ≡ least_but l.but (gap_to l.self.firsts.now l.self.lasts.now l.span.first l.span.last) (cond (eqb l.but 0) 1 0) l.k) × (l.least ≡ gap_to l.self.firsts.now l.self.lasts.now l.span.first l.span.last l.found)
