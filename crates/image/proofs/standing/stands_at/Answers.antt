-- The order's own rule comes first, and leaves the answer as it is where it does not refuse.
use mathlib.Core.Path.{sym, ◌∙◌}
use Rattle.std.proofs.lemmas.Result.{err_from_is_err_and}
use Rattle.image.proofs.AskingLaws.{asked_numbers_lem}
use Rattle.image.proofs.InOrderLaws.{standing_refused_in, standing_passed}
use Rattle.image.proofs.standing.stands_at.Goals as goal

pub returns-then-is_no_order : goal.returns-then-is_no_order
returns-then-is_no_order c =
    let all = standing_refused_in _ _ _ (sym c.is_no_order.ensures ∙ c.if-is_no_order.true) in
    rw c.into.ensures (record { answers = all.0; numbers = all.1 })

pub returns-in_err-standing : goal.returns-in_err-standing
returns-in_err-standing c =
    let p = err_from_is_err_and c.from_residual.result c.from_residual.ensures.1 in
    let all = asked_numbers_lem _ c.in_err-standing.ensures in
    rw (standing_passed _ _ _ (sym c.is_no_order.ensures ∙ c.if-is_no_order.false), p.1, p.2) (record { answers = all.0; numbers = all.1 })

pub returns : goal.returns
returns c =
    let all = asked_numbers_lem _ c.in_ok-standing.ensures in
    rw (standing_passed _ _ _ (sym c.is_no_order.ensures ∙ c.if-is_no_order.false)) (record { answers = all.0; numbers = all.1 })
