-- A row with no pattern asks for nothing; the numbers are the answer's.
use mathlib.Core.Path.{◌≡◌, sym, ap, ◌∙◌}
use borrow.Author.Tests.{eqb-true}
use Rattle.fields.specs.Options.{Options, plain}
use Rattle.patterns.specs.Row.{options_of}
use Rattle.coff.specs.Answer.{headers_of}
use Rattle.coff.proofs.AcceptedLaws.{numbers_are}
use Rattle.coff.proofs.ChoosingLaws.{empty_row_plain}
use Rattle.coff.proofs.reading.read.Goals.{Then-is_empty}
use Rattle.coff.proofs.reading.read.Goals as goal

as_plain : (k : Then-is_empty) → headers_of plain k.args.f.now ≡ headers_of (options_of k.args.patterns.now) k.args.f.now
as_plain k =
    ap (λ (o : Options). headers_of o k.args.f.now) (sym (empty_row_plain k.args.patterns.now (eqb-true _ _ (sym k.is_empty.ensures ∙ k.if-is_empty.true))))

pub returns-then-optional-clause-answers : goal.returns-then-optional-clause-answers
returns-then-optional-clause-answers c = c.chosen.ensures.answers ∙ as_plain (goal.at.returns-then-optional-clause-answers c).Then-is_empty

pub returns-then-optional-clause-numbers : goal.returns-then-optional-clause-numbers
returns-then-optional-clause-numbers c =
    numbers_are _ _ (c.chosen.ensures.answers ∙ as_plain (goal.at.returns-then-optional-clause-numbers c).Then-is_empty)

pub returns-then-is_empty-clause-answers : goal.returns-then-is_empty-clause-answers
returns-then-is_empty-clause-answers c = c.chosen-then-is_empty.ensures.answers ∙ as_plain (goal.at.returns-then-is_empty-clause-answers c).Then-is_empty

pub returns-then-is_empty-clause-numbers : goal.returns-then-is_empty-clause-numbers
returns-then-is_empty-clause-numbers c =
    numbers_are _ _ (c.chosen-then-is_empty.ensures.answers ∙ as_plain (goal.at.returns-then-is_empty-clause-numbers c).Then-is_empty)

pub returns-then-optional-2-clause-numbers : goal.returns-then-optional-2-clause-numbers
returns-then-optional-2-clause-numbers c = numbers_are _ _ c.chosen-then-optional-2.ensures.answers

pub returns-clause-numbers : goal.returns-clause-numbers
returns-clause-numbers c = numbers_are _ _ c.chosen-2.ensures.answers
