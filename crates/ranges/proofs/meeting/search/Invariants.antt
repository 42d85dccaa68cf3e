-- Where passing stops a few ranges are looked at together: they are known to meet none, or are halved, or it is the one.
use Prim.Native.Nat.{◌+◌, ◌-◌}
use Rattle.ranges.proofs.MeetingLaws.{Searching}
use Rattle.ranges.proofs.meeting.search.Given as goal

abbrev pub invariant-loop-stop : goal.invariant-loop-stop
invariant-loop-stop l = Searching l.all l.cover.firsts l.cover.lasts l.stop l.known l.few

abbrev pub decreases-loop-stop : goal.decreases-loop-stop
decreases-loop-stop l = (l.all.count - l.known) + l.few
