-- One range more is compared with those held before it, and held, in each turn.
use Rattle.ranges.proofs.MeetingLaws.{Held}
use Rattle.ranges.proofs.meeting.hold.Given as goal

abbrev pub invariant-loop-k : goal.invariant-loop-k
invariant-loop-k l = Held l.all l.initial.c.number l.held.firsts l.held.lasts l.c l.k
