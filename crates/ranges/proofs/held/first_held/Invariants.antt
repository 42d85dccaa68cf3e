-- One range more shares no address with those held in each turn.
use Prim.Native.Nat.{◌-◌}
use Rattle.ranges.proofs.RowLaws.{Passed}
use Rattle.ranges.proofs.held.first_held.Given as goal

abbrev pub invariant-loop-c : goal.invariant-loop-c
invariant-loop-c l = Passed l.all l.held.firsts.now l.held.lasts.now l.c

abbrev pub decreases-loop-c : goal.decreases-loop-c
decreases-loop-c l = l.all.count - l.c.number
