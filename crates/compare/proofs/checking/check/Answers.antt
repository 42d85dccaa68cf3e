-- Options, file or image are refused, or both are compared, by the readers' stated results. The numbers of each answer are those of the outcome.
use mathlib.Core.Path.{◌≡◌, sym, ◌∙◌}
use mathlib.Core.Bool.{true, false}
use Rattle.std.proofs.lemmas.Result.{err_from_is_err_and}
use Rattle.fields.specs.Rules.{done}
use Rattle.fields.specs.Options.{are_refused, is_no_order}
use Rattle.patterns.specs.Row.{options_of}
use Rattle.coff.specs.Handed.{source_in}
use Rattle.coff.specs.Reading.{read_coff}
use Rattle.coff.proofs.AcceptedLaws.{refused_file, file_reads}
use Rattle.image.proofs.HandedLaws.{image_accepted, image_reads}
use Rattle.image.proofs.ReadLaws.{reading_refused}
use Rattle.compare.proofs.CheckLaws.{not_asked, not_ordered, file_refused, image_refused, both_read, check_numbers_lem}
use Rattle.compare.proofs.checking.check.Goals.{Else-are_refused, Else-is_no_order, In_ok-file, In_ok-image, Then-are_refused}
use Rattle.compare.proofs.checking.check.Goals as goal

refused_first : (k : Then-are_refused) → are_refused (options_of k.args.patterns.now).patterns ≡ true
unfolding options_of
refused_first k = sym k.are_refused.ensures ∙ k.if-are_refused.true

passed : (k : Else-are_refused) → are_refused (options_of k.args.patterns.now).patterns ≡ false
unfolding options_of
passed k = sym k.are_refused.ensures ∙ k.if-are_refused.false

ordered : (k : Else-is_no_order) → is_no_order k.args.order ≡ false
ordered k = sym k.is_no_order.ensures ∙ k.if-is_no_order.false

-- what is known of the file where it is not refused
read : (k : In_ok-file) → let start = k in read_coff (options_of start.args.patterns.now) start.args.file.now ≡ done (source_in k.in_ok-file.file)
read k = file_reads _ _ k.in_ok-file.file k.in_ok-file.ensures.answers k.in_ok-file.ensures.file

pub returns-then-are_refused-clause-answers : goal.returns-then-are_refused-clause-answers
returns-then-are_refused-clause-answers c =
    let a = c.args in
    rw c.into.ensures (not_asked (options_of a.patterns.now) a.order _ _ (refused_first (goal.at.returns-then-are_refused-clause-answers c).Then-are_refused))

pub returns-then-are_refused-clause-numbers : goal.returns-then-are_refused-clause-numbers
returns-then-are_refused-clause-numbers c = check_numbers_lem _ (returns-then-are_refused-clause-answers c)

pub returns-then-is_no_order-clause-answers : goal.returns-then-is_no_order-clause-answers
returns-then-is_no_order-clause-answers c =
    let a = c.args in
    rw c.into-then-is_no_order.ensures (not_ordered (options_of a.patterns.now) a.order _ _ (passed (goal.at.returns-then-is_no_order-clause-answers c).Else-are_refused) (sym c.is_no_order.ensures ∙ c.if-is_no_order.true))

pub returns-then-is_no_order-clause-numbers : goal.returns-then-is_no_order-clause-numbers
returns-then-is_no_order-clause-numbers c = check_numbers_lem _ (returns-then-is_no_order-clause-answers c)

pub returns-in_err-file-clause-answers : goal.returns-in_err-file-clause-answers
returns-in_err-file-clause-answers c =
    let a = c.args in
    let at = goal.at.returns-in_err-file-clause-answers c in
    let p = err_from_is_err_and c.from_residual.result c.from_residual.ensures.1 in
    rw (p.1, p.2) (file_refused (options_of a.patterns.now) a.order _ _ (passed at.Else-are_refused) (ordered at.Else-is_no_order) (refused_file _ _ (sym c.in_err-file.ensures.answers)))

pub returns-in_err-file-clause-numbers : goal.returns-in_err-file-clause-numbers
returns-in_err-file-clause-numbers c = check_numbers_lem _ (returns-in_err-file-clause-answers c)

pub returns-in_err-image-clause-answers : goal.returns-in_err-image-clause-answers
returns-in_err-image-clause-answers c =
    let a = c.args in
    let at = goal.at.returns-in_err-image-clause-answers c in
    let p = err_from_is_err_and c.from_residual-in_err-image.result c.from_residual-in_err-image.ensures.1 in
    rw (p.1, p.2) (image_refused (options_of a.patterns.now) a.order _ _ (passed at.Else-are_refused) (ordered at.Else-is_no_order) (read at.In_ok-file) (reading_refused _ (sym c.in_err-image.ensures.answers)))

pub returns-in_err-image-clause-numbers : goal.returns-in_err-image-clause-numbers
returns-in_err-image-clause-numbers c = check_numbers_lem _ (returns-in_err-image-clause-answers c)

pub against-requires : goal.against-requires
against-requires c = image_accepted c.args.order c.args.image.now c.in_ok-image.image c.in_ok-image.ensures.answers c.in_ok-image.ensures.image

-- what rules 40 and 41 say is what the check says
pub returns-in_err-against-clause-answers : goal.returns-in_err-against-clause-answers
returns-in_err-against-clause-answers c =
    let a = c.args in
    let at = goal.at.returns-in_err-against-clause-answers c in
    let p = err_from_is_err_and c.from_residual-in_err-against.result c.from_residual-in_err-against.ensures.1 in
    rw (p.1, p.2) (c.in_err-against.ensures ∙ both_read (options_of a.patterns.now) a.order _ _ (passed at.Else-are_refused) (ordered at.Else-is_no_order) (read at.In_ok-file) (image_reads a.order a.image.now c.in_ok-image.image c.in_ok-image.ensures.answers c.in_ok-image.ensures.image))

pub returns-in_err-against-clause-numbers : goal.returns-in_err-against-clause-numbers
returns-in_err-against-clause-numbers c = check_numbers_lem _ (returns-in_err-against-clause-answers c)

pub returns-clause-answers : goal.returns-clause-answers
returns-clause-answers c =
    let a = c.args in
    let at = goal.at.returns-clause-answers c in
    c.in_ok-against.ensures ∙ both_read (options_of a.patterns.now) a.order _ _ (passed at.Else-are_refused) (ordered at.Else-is_no_order) (read at.In_ok-file) (image_reads a.order a.image.now c.in_ok-image.image c.in_ok-image.ensures.answers c.in_ok-image.ensures.image)

pub returns-clause-numbers : goal.returns-clause-numbers
returns-clause-numbers c = check_numbers_lem _ (returns-clause-answers c)
