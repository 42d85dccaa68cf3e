use mathlib.Core.Path.{sym, ◌∙◌}
use native.Mathlib.Omega.{arith}
use Rattle.ranges.proofs.MeetingLaws.{known_more, none_meets, one_meets}
use Rattle.ranges.proofs.meeting.search.Goals as goal

pub returns-then-left-eq0 : goal.returns-then-left-eq0
returns-then-left-eq0 c = none_meets _ _ (omega arith) c.pass-stop.ensures.searched.known

pub loop-stop-preserved-then-not-few_meet : goal.loop-stop-preserved-then-not-few_meet
loop-stop-preserved-then-not-few_meet c =
    let v = c.loop-stop.invariant in
    let w = c.pass-stop.ensures.searched in
    let less = c.min-few.ensures in
    record {
      searched = w;
      known_too = known_more _ _ _ w.known (omega (arith, less)) (sym c.few_meet.ensures ∙ c.if-not-few_meet.true);
      some = omega (arith, v.some, less);
      small = omega (arith, v.small, less);
    }

pub returns-then-few-eq1 : goal.returns-then-few-eq1
returns-then-few-eq1 c =
    one_meets _ _ _ (omega arith) c.pass-stop.ensures.searched.known (sym c.few_meet.ensures ∙ c.if-not-few_meet.false) (omega arith)
