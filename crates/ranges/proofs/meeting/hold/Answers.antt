use mathlib.Core.Path.{refl, sym, ◌∙◌}
use mathlib.Core.Bool.{true≢false}
use native.Mathlib.Omega.{arith}
use Rattle.ranges.proofs.MeetingLaws.{held_first, held_on, held_found}
use Rattle.ranges.proofs.meeting.hold.Goals as goal

pub loop-k-init : goal.loop-k-init
loop-k-init c = held_first _ _ _ _ _ c.requires.0.here refl

pub returns-then-meets : goal.returns-then-meets
returns-then-meets c =
    let long = c.loop-k.held.long in
    let met = rw (c.front.ensures.0, c.front.ensures.1) at c.meets.ensures in
    record {
      meets = sym (held_found _ _ _ _ _ _ c.loop-k.invariant (omega (arith, long)) (omega (arith, long)) _ c.range_at-b.ensures _ (omega arith) (sym met ∙ c.if-meets.true));
      holds = λ e. absurd (true≢false e);
    }

pub loop-k-preserved : goal.loop-k-preserved
loop-k-preserved c =
    let long = c.loop-k.held.long in
    let met = rw (c.front.ensures.0, c.front.ensures.1) at c.meets.ensures in
    rw (c.put.ensures.0, c.put.ensures.1)
    (held_on _ _ _ _ _ _ c.loop-k.invariant (omega (arith, long)) (omega (arith, long)) _ c.range_at-b.ensures (sym met ∙ c.if-meets.false))
