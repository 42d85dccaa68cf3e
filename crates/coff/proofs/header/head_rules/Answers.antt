-- The first six decide, or the others do.
use mathlib.Core.Path.{◌∙◌}
use Rattle.std.proofs.lemmas.Result.{err_from_is_err_and}
use Rattle.coff.proofs.AnswerLaws.{first_refuses, whole_by_first, next_decides}
use Rattle.coff.proofs.header.head_rules.Goals as goal

pub returns-in_err-first_rules : goal.returns-in_err-first_rules
returns-in_err-first_rules c =
    let p = err_from_is_err_and c.from_residual.result c.from_residual.ensures.1 in
    rw (p.1, p.2) (first_refuses c.args.f.now c.in_err-first_rules.ensures)

pub next_rules-requires : goal.next_rules-requires
next_rules-requires c = whole_by_first c.args.f.now c.in_ok-first_rules.ensures

pub returns : goal.returns
returns c = c.next_rules.ensures ∙ next_decides c.args.f.now c.in_ok-first_rules.ensures
