-- The numbers in the header are asked first; of a section that they keep the name decides.
use mathlib.Core.Path.{◌≡◌, sym, ◌∙◌}
use Rattle.std.specs.Prelude.{None, Some}
use Rattle.std.proofs.lemmas.Result.{err_from_is_err_and}
use native.Mathlib.Omega.{arith}
use Rattle.fields.specs.declared.refusal.Reason.TheVariants.{SectionName}
use Rattle.patterns.specs.Row.{options_of}
use Rattle.coff.specs.File.{section_of}
use Rattle.coff.specs.Headers.{section_at}
use Rattle.coff.proofs.SectionLaws.{section_is}
use Rattle.coff.proofs.ChoosingLaws.{asked_some, name_is, unreadable_is, flags_leave, name_lacking, name_decides}
use Rattle.coff.proofs.choosing.ByNameChooser.keeps.Goals.{After-header-header}
use Rattle.coff.proofs.choosing.ByNameChooser.keeps.Goals as goal

here : (k : After-header-header) → section_at k.header-header.result ≡ section_of k.args.headers.now.file.now k.args.i
here k = section_is _ _ k.args.i k.args.headers.now.laid.begins k.header-header.result k.header-header.ensures

pub returns-then-not-is_kept : goal.returns-then-not-is_kept
returns-then-not-is_kept c =
    let flags = rw (here (goal.at.returns-then-not-is_kept c).After-header-header) at c.is_kept.ensures in
    flags_leave _ _ _ (sym flags ∙ c.if-not-is_kept.true)

pub returns-in_err-name : goal.returns-in_err-name
returns-in_err-name c =
    let flags = rw (here (goal.at.returns-in_err-name c).After-header-header) at c.is_kept.ensures in
    let header = c.header-header in
    let p = err_from_is_err_and c.from_residual.result c.from_residual.ensures.1 in
    let why : c.in_err-name.field-0.0 ≡ SectionName = grind arith in
    let none : c.name_at.result ≡ None = grind arith in
    rw (p.1, p.2, why) (name_lacking _ _ _ (sym flags ∙ c.if-not-is_kept.false) (asked_some _ c.args.self.now.some) (sym (unreadable_is _ _ _ c.args.headers.now.laid.begins header.result header.ensures) ∙ rw none at c.name_at.ensures))

pub returns : goal.returns
unfolding options_of
returns c =
    let flags = rw (here (goal.at.returns c).After-header-header) at c.is_kept.ensures in
    let header = c.header-header in
    let begins = c.args.headers.now.laid.begins in
    let some : c.name_at.result ≡ Some c.in_ok-name.name = grind arith in
    let named = rw some at c.name_at.ensures in
    name_decides _ _ _ (sym flags ∙ c.if-not-is_kept.false) (sym (unreadable_is _ _ _ begins header.result header.ensures) ∙ named.0) _ (rw (named.1 ∙ name_is _ _ _ begins header.result header.ensures) at c.takes_any.ensures)
