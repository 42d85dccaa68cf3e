use native.Mathlib.Omega.{arith}
use Rattle.ranges.proofs.MeetingLaws.{passes, searched_on}
use Rattle.ranges.proofs.meeting.pass.Goals as goal

pub loop-later-preserved : goal.loop-later-preserved
loop-later-preserved c =
    let v = c.loop-later.invariant in
    let long = c.loop-later.cover.long in
    let told = c.range_at-b.ensures in
    let call = c.take_in.ensures in
    let met = rw (c.all.ensures.0, c.all.ensures.1) at c.meets-clear.ensures in
    let passed = passes _ _ _ _ v _ told _ c.requires.known_too _ met c.if-not-passed-clear.false in
    rw (call.firsts, call.lasts) (searched_on _ _ _ _ v _ told (omega (arith, long)) (omega (arith, long)) passed (omega arith))
