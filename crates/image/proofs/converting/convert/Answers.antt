-- Refused options, and a refused file, refuse the conversion; what was read of an accepted file is written.
use mathlib.Core.Path.{◌≡◌, sym, ◌∙◌}
use mathlib.Core.Bool.{true, false}
use lib.ListN.{length}
use Rattle.std.proofs.lemmas.Result.{err_from_is_err_and}
use Rattle.fields.specs.Rules.{done}
use Rattle.fields.specs.Options.{in_order, are_refused, is_no_order}
use Rattle.patterns.specs.Row.{options_of}
use Rattle.coff.specs.Handed.{source_in}
use Rattle.coff.proofs.AcceptedLaws.{refused_file, file_reads}
use Rattle.image.specs.Converting.{writing, converting}
use Rattle.image.proofs.ConversionLaws.{refuses, not_asked, not_ordered, file_refused, file_read, conversion_numbers_lem}
use Rattle.image.proofs.converting.convert.Goals.{Else-are_refused, Else-is_no_order, In-Ok, Then-are_refused}
use Rattle.image.proofs.converting.convert.Goals as goal

refused_first : (k : Then-are_refused) → are_refused (options_of k.args.patterns.now).patterns ≡ true
unfolding options_of
refused_first k = sym k.are_refused.ensures ∙ k.if-are_refused.true

passed : (k : Else-are_refused) → are_refused (options_of k.args.patterns.now).patterns ≡ false
unfolding options_of
passed k = sym k.are_refused.ensures ∙ k.if-are_refused.false

ordered : (k : Else-is_no_order) → is_no_order k.args.order ≡ false
ordered k = sym k.is_no_order.ensures ∙ k.if-is_no_order.false

pub returns-then-are_refused : goal.returns-then-are_refused
returns-then-are_refused c =
    let a = c.args in
    let out = not_asked a.order (options_of a.patterns.now) a.f.now (length a.out.now) (refused_first (goal.at.returns-then-are_refused c).Then-are_refused) in
    let all = conversion_numbers_lem a.order _ a.out.now (refuses a.order _ out a.out.now) in
    rw c.into.ensures (record { answers = all.0; numbers = all.1.0; leaves = all.1.1 })

pub returns-then-is_no_order : goal.returns-then-is_no_order
returns-then-is_no_order c =
    let a = c.args in
    let out = not_ordered a.order (options_of a.patterns.now) a.f.now (length a.out.now) (passed (goal.at.returns-then-is_no_order c).Else-are_refused) (sym c.is_no_order.ensures ∙ c.if-is_no_order.true) in
    let all = conversion_numbers_lem a.order _ a.out.now (refuses a.order _ out a.out.now) in
    rw c.into-then-is_no_order.ensures (record { answers = all.0; numbers = all.1.0; leaves = all.1.1 })

pub returns-in-Err : goal.returns-in-Err
returns-in-Err c =
    let a = c.args in
    let out = file_refused a.order (options_of a.patterns.now) a.f.now (length a.out.now) (passed (goal.at.returns-in-Err c).Else-are_refused) (ordered (goal.at.returns-in-Err c).Else-is_no_order) (refused_file _ _ (sym (rw c.in-Err.is at c.read.ensures.answers))) in
    let all = conversion_numbers_lem a.order _ a.out.now (refuses a.order _ out a.out.now) in
    record { answers = all.0; numbers = all.1.0; leaves = all.1.1 }

-- what is converted is what was read
read : (k : In-Ok) → (are_refused (options_of k.args.patterns.now).patterns ≡ false) × (is_no_order k.args.order ≡ false) →
    converting (in_order k.args.order (options_of k.args.patterns.now)) k.args.f.now (length k.args.out.now) ≡ writing (done (source_in k.in-Ok.file)) (length k.args.out.now)
read k h =
    let told = k.read.ensures in
    file_read k.args.order (options_of k.args.patterns.now) k.args.f.now (length k.args.out.now) h.0 h.1 (file_reads _ _ k.in-Ok.file (rw k.in-Ok.is at told.answers) (rw k.in-Ok.is at told.file))

pub returns-in_err-convert_sound-in-Ok : goal.returns-in_err-convert_sound-in-Ok
returns-in_err-convert_sound-in-Ok c =
    let at = goal.at.returns-in_err-convert_sound-in-Ok c in
    let p = err_from_is_err_and c.from_residual.result c.from_residual.ensures.1 in
    let out = read at.In-Ok (passed at.Else-are_refused, ordered at.Else-is_no_order) in
    let sound = c.in_err-convert_sound-in-Ok.ensures in
    let all = conversion_numbers_lem c.args.order _ c.args.out.now (sound.answers, sound.leaves) in
    rw (out, p.1, p.2) (record { answers = all.0; numbers = all.1.0; leaves = all.1.1 })

pub returns-in_ok-convert_sound-in-Ok : goal.returns-in_ok-convert_sound-in-Ok
returns-in_ok-convert_sound-in-Ok c =
    let at = goal.at.returns-in_ok-convert_sound-in-Ok c in
    let out = read at.In-Ok (passed at.Else-are_refused, ordered at.Else-is_no_order) in
    let sound = c.in_ok-convert_sound-in-Ok.ensures in
    let all = conversion_numbers_lem c.args.order _ c.args.out.now (sound.answers, sound.leaves) in
    rw out (record { answers = all.0; numbers = all.1.0; leaves = all.1.1 })
