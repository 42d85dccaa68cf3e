-- The first section that is refused decides; one that is left asks for nothing, and one that is kept is judged by its ranges.
use mathlib.Core.Path.{◌≡◌, sym, ◌∙◌}
use native.Mathlib.Omega.{arith}
use Rattle.std.proofs.lemmas.Result.{err_from_is_err_and}
use Rattle.fields.proofs.RuleLaws.{silent_none, silent_more, refused_at}
use Rattle.coff.specs.File.{section_count}
use Rattle.coff.specs.Kept.{keeps}
use Rattle.coff.proofs.JudgingLaws.{passes, was_silent}
use Rattle.coff.proofs.MarkLaws.{noted, marks_none}
use Rattle.coff.proofs.SectionLaws.{section_is}
use Rattle.coff.proofs.ChoosingLaws.{name_refuses, left_silent, kept_decides}
use Rattle.coff.proofs.NotedLaws.{nothing_noted, left_noted, kept_noted}
use Rattle.coff.proofs.ranges.Noted.note_all.Goals.{then-branch+in_ok-one_section, else-branch}
use Rattle.coff.proofs.ranges.Noted.note_all.Goals as goal

pub loop-i-init : goal.loop-i-init
loop-i-init g c = record { silent = silent_none _; noted = nothing_noted _ _ _ (c.requires.marks ∙ marks_none _) }

pub returns-in_err-keeps-clause-answers : goal.returns-in_err-keeps-clause-answers
returns-in_err-keeps-clause-answers g c =
    let p = err_from_is_err_and c.from_residual.result c.from_residual.ensures.1 in
    rw (p.1, p.2, c.in_err-keeps.ensures.1) (sym (refused_at _ _ c.loop-i.i (tt {0}) (tt {0}) (omega arith) c.loop-i.invariant.silent (sym (name_refuses _ _ _ c.in_err-keeps.ensures.0))))

pub returns-in_err-one_section-clause-answers : goal.returns-in_err-one_section-clause-answers
returns-in_err-one_section-clause-answers g c =
    let p = err_from_is_err_and c.from_residual-in_err-one_section.result c.from_residual-in_err-one_section.ensures.1 in
    let chosen = c.in_ok-keeps.ensures in
    rw (p.1, p.2) (sym (refused_at _ _ c.loop-i.i (tt {0}) (tt {0}) (omega arith) c.loop-i.invariant.silent (sym (c.in_err-one_section.ensures ∙ kept_decides _ _ _ chosen.0 (sym chosen.1 ∙ c.if-branch.true)))))

pub mark-requires : goal.mark-requires
mark-requires g c =
    let f = c.args.headers.now.file.now in
    (omega arith, rw c.loop-i.invariant.noted.marks ((noted (keeps (g.C.Chooser.options c.args.chooser.now) f) c.loop-i.i (omega arith)).room c.loop-i.i (omega arith) (omega arith)))

pub loop-i-preserved : goal.loop-i-preserved
loop-i-preserved g c =
    let before = c.loop-i.invariant in
    let chosen = c.in_ok-keeps.ensures in
    elim c.if-branch.branch [
      | then-branch+in_ok-one_section w ↦
          let kept = sym chosen.1 ∙ w.if-branch.true in
          let here = section_is _ _ c.loop-i.i c.args.headers.now.laid.begins w.header-header.result w.header-header.ensures in
          rw (w.self-is, w.top-is, w.rise-is) (record {
            silent = silent_more _ _ before.silent (was_silent _ (w.in_ok-one_section.ensures ∙ kept_decides _ _ _ chosen.0 kept));
            noted = rw (w.load-load.ensures, here) (kept_noted _ _ _ _ _ before.noted kept _ w.mark.ensures _ (omega (arith, rw here at w.size.ensures, rw here at w.load-load.ensures)));
          })
      | else-branch w ↦
          let left = sym chosen.1 ∙ w.if-branch.false in
          rw (w.self-is, w.top-is, w.rise-is) (record {
            silent = silent_more _ _ before.silent (left_silent _ _ _ chosen.0 left);
            noted = left_noted _ _ _ _ _ before.noted left;
          })
    ]

pub returns-clause-answers : goal.returns-clause-answers
returns-clause-answers g c =
    let e : c.loop-i.i ≡ section_count c.args.headers.now.file.now = omega arith in
    passes _ (rw e at c.loop-i.invariant.silent)

pub returns-clause-notes : goal.returns-clause-notes
returns-clause-notes g c =
    let e : c.loop-i.i ≡ section_count c.args.headers.now.file.now = omega arith in
    (c.loop-i.top, rw e at c.loop-i.invariant.noted)
