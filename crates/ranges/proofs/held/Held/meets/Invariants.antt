-- One range more is asked in each turn.
use mathlib.Core.Path.{◌≡◌}
use Rattle.fields.specs.Counting.{any_below}
use Rattle.ranges.specs.Held.{meets_at}
use Rattle.ranges.proofs.held.Held.meets.Given as goal

abbrev pub invariant-loop-k : goal.invariant-loop-k
invariant-loop-k l = l.met ≡ any_below (meets_at l.self.firsts.now l.self.lasts.now l.span.first l.span.last) l.k
