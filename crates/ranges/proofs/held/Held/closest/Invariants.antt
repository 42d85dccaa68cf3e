-- One range more is looked at in each turn.
use mathlib.Core.Path.{◌≡◌}
use lib.ListN.{length}
use Rattle.ranges.specs.Cover.{least_but, apart_at}
use Rattle.ranges.proofs.held.Held.closest.Given as goal

abbrev pub invariant-loop-k : goal.invariant-loop-k
invariant-loop-k l = (l.found ≡ least_but (length l.self.firsts.now) (apart_at l.self.firsts.now l.self.lasts.now) 0 l.k) × (l.least ≡ apart_at l.self.firsts.now l.self.lasts.now l.found)
