use native.Mathlib.Omega.{arith}
use Rattle.ranges.proofs.MeetingLaws.{stacked_first, stacked_on}
use Rattle.ranges.proofs.meeting.stacked.Goals as goal

pub loop-c-init : goal.loop-c-init
loop-c-init c = stacked_first _ _ c.requires.range c.requires.some

pub loop-c-preserved : goal.loop-c-preserved
loop-c-preserved c =
    rw (c.min-lowest.ensures, c.max-highest.ensures)
    (stacked_on _ _ _ _ c.loop-c.invariant _ c.range_at-b.ensures (omega arith) c.if-not-above-below.false)
