-- Sixteen patterns at most are asked in turn, with how many stand before them; behind those one that begins is one too many.
use mathlib.Core.Path.{sym, ap, ◌∙◌}
use native.Mathlib.Omega.{arith}
use lib.ListN.{length}
use Rattle.patterns.proofs.RowLaws.{refused_after_none, refused_length, refused_later, refused_behind, refused_too_many}
use Rattle.patterns.proofs.row.are_refused.Goals as goal

pub loop-init : goal.loop-init
loop-init c = record { few = omega arith; same = refused_after_none _; whole = omega arith }

pub returns-in-Some : goal.returns-in-Some
returns-in-Some c =
    sym (c.loop.invariant.same ∙ rw c.in-Some.ensures.steps (refused_length _ _ _ (sym c.is_no_length.ensures ∙ c.if-is_no_length.true)))

pub returns-in-None : goal.returns-in-None
returns-in-None c = sym (c.loop.invariant.same ∙ rw c.in-None.ensures.steps.0 (refused_behind _ c.loop.invariant.few))

pub loop-preserved : goal.loop-preserved
loop-preserved c =
    let v = c.loop.invariant in
    record {
      few = omega (arith, c.min-end.ensures);
      same = v.same ∙ rw c.in-Some.ensures.steps (refused_later _ _ _ (sym c.is_no_length.ensures ∙ c.if-is_no_length.false));
      whole = omega (arith, v.whole, ap length c.in-Some.ensures.steps);
    }

pub returns : goal.returns
returns c =
    let v = c.loop.invariant in
    sym (v.same ∙ refused_too_many c.args.row.now _ _ _ (omega (arith, c.min-end.ensures)) v.whole)
