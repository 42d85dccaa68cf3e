use native.Mathlib.Omega.{arith}
use lib.ListN.{length}
use lib.Seq.{length-take-le}
use mathlib.Core.Path.{◌≡◌}
use Rattle.ranges.proofs.HeldLaws.{holds_front}
use Rattle.ranges.proofs.AcrossLaws.{crossed_first, crossed_on, found_low}
use Rattle.ranges.proofs.across.first_across.Goals as goal

pub loop-c-init : goal.loop-c-init
loop-c-init c = crossed_first _ _ _ c.first-c.ensures

pub front-requires : goal.front-requires
front-requires c = rw c.unwrap_or-most.ensures (found_low _ _ _ _ c.loop-c.invariant)

pub loop-c-preserved : goal.loop-c-preserved
loop-c-preserved c =
    let few = c.min-few in
    let call = c.hold_few-c in
    let held = c.front-in-loop-c in
    let long : length held.result.firsts.now ≡ few.result = rw held.ensures.0 (length-take-le few.result call.new.held.firsts (omega (arith, few.ensures, call.new.held.long))) in
    let told = rw (← held.ensures.0, ← held.ensures.1) at (holds_front _ _ _ few.result _ _ call.ensures.holds) in
    crossed_on _ _ _ _ c.loop-c.invariant few.result (omega (arith, few.ensures)) held.result.firsts.now held.result.lasts.now long _
    (record { holds = told; here = call.ensures.here; counted = call.ensures.counted })
    c.front.result
    (rw (← c.unwrap_or-most.ensures) c.front.ensures)
    _
    (rw (← c.first_held.ensures) c.or-found.ensures)
