-- One range more lies above or below all before it in each turn.
use Prim.Native.Nat.{◌-◌}
use Rattle.ranges.proofs.MeetingLaws.{Stacked}
use Rattle.ranges.proofs.meeting.stacked.Given as goal

abbrev pub invariant-loop-c : goal.invariant-loop-c
invariant-loop-c l = Stacked l.all l.lowest l.highest l.c

abbrev pub decreases-loop-c : goal.decreases-loop-c
decreases-loop-c l = l.all.count - l.c.number
