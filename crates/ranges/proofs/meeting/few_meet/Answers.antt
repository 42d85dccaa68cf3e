use mathlib.Core.Path.{◌≡◌, sym, ◌∙◌}
use native.Mathlib.Omega.{arith}
use lib.ListN.{length, take}
use lib.Seq.{length-take-le}
use Rattle.ranges.proofs.HeldLaws.{holds_front}
use Rattle.ranges.proofs.SearchLaws.{together_among, among_is}
use Rattle.ranges.proofs.MeetingLaws.{any_before}
use Rattle.ranges.proofs.meeting.few_meet.Goals as goal

pub returns-then-hold : goal.returns-then-hold
returns-then-hold c = c.if-hold.true ∙ sym (together_among _ _ _ _ (sym c.hold.ensures.meets ∙ c.if-hold.true))

pub returns-else-hold : goal.returns-else-hold
returns-else-hold c =
    let call = c.hold in
    let few = c.args.few in
    let ready = c.requires.0 in
    let long : length (take few call.new.held.firsts) ≡ few = length-take-le few call.new.held.firsts (omega (arith, call.new.held.long)) in
    c.is_some.ensures
    ∙ rw (c.first_held.ensures, c.front-else-hold.ensures.0, c.front-else-hold.ensures.1)
    (any_before _ _ _ _ _ (holds_front _ _ _ _ _ _ (call.ensures.holds c.if-hold.false)) long (omega (arith, ready.more)) _ c.front.ensures
    ∙ sym (among_is _ _ _ _ (sym call.ensures.meets ∙ c.if-hold.false)))
