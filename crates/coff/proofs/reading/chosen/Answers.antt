-- The parts of the table are asked in their order: the file as a whole, its sections, and pairs of them by the marks, which tell what is kept.
use mathlib.Core.Path.{◌≡◌, sym}
use native.Mathlib.Omega.{arith}
use Rattle.std.proofs.lemmas.Result.{err_from_is_err_and}
use Rattle.fields.specs.Rules.{Silent, done}
use Rattle.coff.specs.File.{section_count}
use Rattle.coff.specs.Refusals.{head_rules}
use Rattle.coff.specs.Steps.{Laid}
use Rattle.coff.specs.Answer.{headers_of}
use Rattle.coff.proofs.JudgingLaws.{was_silent}
use Rattle.coff.proofs.AcceptedLaws.{accepted}
use Rattle.coff.proofs.AnswerLaws as laws
use Rattle.coff.proofs.reading.chosen.Given.{Over}
use Rattle.coff.proofs.reading.chosen.Goals.{In_ok-head_rules, After-u16_at-count, After-entry}
use Rattle.coff.proofs.reading.chosen.Goals as goal

-- what is known where no rule of the file as a whole holds
silent : (g : Over) (k : In_ok-head_rules g) → Silent (head_rules k.args.f.now)
silent g k = was_silent (head_rules k.args.f.now) k.in_ok-head_rules.ensures

laid : (g : Over) (k : After-u16_at-count g) → Silent (head_rules k.args.f.now) → Laid k.args.f.now k.args.at k.u16_at-count.result
unfolding section_count
laid g k s = laws.laid k.args.f.now s _ _ (k.requires s) k.u16_at-count.ensures

pub returns-in_err-head_rules-clause-answers : goal.returns-in_err-head_rules-clause-answers
returns-in_err-head_rules-clause-answers g c =
    let p = err_from_is_err_and c.from_residual.result c.from_residual.ensures.1 in
    rw (p.1, p.2) (laws.head_refuses _ _ c.in_err-head_rules.ensures)

pub u16_at-count-requires : goal.u16_at-count-requires
u16_at-count-requires g c = omega (arith, laws.head_whole c.args.f.now (silent g c))

pub invariant_of-headers : goal.invariant_of-headers
invariant_of-headers g c =
    record { laid = laid g (goal.at.invariant_of-headers g c).After-u16_at-count (silent g (goal.at.invariant_of-headers g c).In_ok-head_rules) }

pub returns-in_err-note_all-clause-answers : goal.returns-in_err-note_all-clause-answers
returns-in_err-note_all-clause-answers g c =
    let s = silent g (goal.at.returns-in_err-note_all-clause-answers g c).In_ok-head_rules in
    let p = err_from_is_err_and c.from_residual-in_err-note_all.result c.from_residual-in_err-note_all.ensures.1 in
    rw (p.1, p.2) (laws.sections_refuse _ _ s c.in_err-note_all.ensures.answers)

pub pairs-requires : goal.pairs-requires
pairs-requires g c rises =
    let s = silent g (goal.at.pairs-requires g c).In_ok-head_rules in
    let l = laid g (goal.at.pairs-requires g c).After-u16_at-count s in
    let passed = was_silent _ c.in_ok-note_all.ensures.answers in
    let noted = c.in_ok-note_all.ensures.notes.1 in
    rw (laws.pairs_asked _ _ s _ passed noted.marks (omega (arith, l))) (noted.risen rises)

pub returns-in_err-pairs-clause-answers : goal.returns-in_err-pairs-clause-answers
returns-in_err-pairs-clause-answers g c =
    let s = silent g (goal.at.returns-in_err-pairs-clause-answers g c).In_ok-head_rules in
    let l = laid g (goal.at.returns-in_err-pairs-clause-answers g c).After-u16_at-count s in
    let passed = was_silent _ c.in_ok-note_all.ensures.answers in
    let noted = c.in_ok-note_all.ensures.notes.1 in
    let p = err_from_is_err_and c.from_residual-in_err-pairs.result c.from_residual-in_err-pairs.ensures.1 in
    rw (p.1, p.2) (laws.pairs_refuse _ _ s _ passed noted.marks (omega (arith, l)) c.in_err-pairs.ensures)

pub entry-requires : goal.entry-requires
entry-requires g c = silent g (goal.at.entry-requires g c).In_ok-head_rules

answers : (g : Over) (k : After-entry g) → Silent (head_rules k.args.f.now) → Laid k.args.f.now k.args.at k.u16_at-count.result → done (record { sections = record { at = k.args.at; count = k.u16_at-count.result; kept = k.note_all.new.self.kept }; entry = k.entry.result }) ≡ headers_of (g.C.Chooser.options k.args.chooser.now) k.args.f.now
answers g k s l =
    let passed = was_silent _ k.in_ok-note_all.ensures.answers in
    let noted = k.in_ok-note_all.ensures.notes.1 in
    laws.none_refuses _ _ s _ passed noted.marks (omega (arith, l)) k.in_ok-pairs.ensures (l.begins, l.counted, k.entry.ensures)

pub invariant_of-result : goal.invariant_of-result
invariant_of-result g c =
    let s = silent g (goal.at.invariant_of-result g c).In_ok-head_rules in
    let l = laid g (goal.at.invariant_of-result g c).After-u16_at-count s in
    record { read = (accepted _ _ (sym (answers g c s l))).read_of }

pub returns-clause-answers : goal.returns-clause-answers
returns-clause-answers g c =
    let s = silent g (goal.at.returns-clause-answers g c).In_ok-head_rules in
    answers g (goal.at.returns-clause-answers g c).After-entry s (laid g (goal.at.returns-clause-answers g c).After-u16_at-count s)
