-- Where options or file are refused nothing is measured; of an accepted file the figures decide rule 14.
use mathlib.Core.Path.{◌≡◌, sym, ◌∙◌}
use mathlib.Core.Bool.{true, false}
use Rattle.std.proofs.lemmas.Result.{err_from_is_err_and}
use Rattle.fields.specs.Rules.{done}
use Rattle.fields.specs.Options.{are_refused}
use Rattle.patterns.specs.Row.{options_of}
use Rattle.coff.proofs.AcceptedLaws.{refused_file, file_reads}
use Rattle.coff.proofs.OrderLaws.{row_order_passes}
use Rattle.coff.specs.Handed.{source_in}
use Rattle.image.specs.Converting.{measuring, sizing}
use Rattle.image.proofs.ConversionLaws.{conversion_is, not_measured, file_not_measured, file_measured, measured_numbers}
use Rattle.image.proofs.measuring.measure_file.Goals.{Else-are_refused, In_ok-file, Then-are_refused}
use Rattle.image.proofs.measuring.measure_file.Goals as goal

refused_first : (k : Then-are_refused) → are_refused (options_of k.args.patterns.now).patterns ≡ true
unfolding options_of
refused_first k = sym k.are_refused.ensures ∙ k.if-are_refused.true

passed : (k : Else-are_refused) → are_refused (options_of k.args.patterns.now).patterns ≡ false
unfolding options_of
passed k = sym k.are_refused.ensures ∙ k.if-are_refused.false

pub returns-then-are_refused : goal.returns-then-are_refused
returns-then-are_refused c =
    let out = not_measured _ c.args.f.now (refused_first (goal.at.returns-then-are_refused c).Then-are_refused) in
    let all = measured_numbers _ (conversion_is _ out) in
    rw c.into.ensures (record { answers = all.0; numbers = all.1 })

pub returns-in_err-file : goal.returns-in_err-file
returns-in_err-file c =
    let p = err_from_is_err_and c.from_residual.result c.from_residual.ensures.1 in
    let out = file_not_measured _ c.args.f.now (passed (goal.at.returns-in_err-file c).Else-are_refused) (row_order_passes _) (refused_file _ _ (sym c.in_err-file.ensures.answers)) in
    let all = measured_numbers _ (conversion_is _ out) in
    rw (p.1, p.2) (record { answers = all.0; numbers = all.1 })

-- what is measured is what was read
measured : (k : In_ok-file) → are_refused (options_of k.args.patterns.now).patterns ≡ false → measuring (options_of k.args.patterns.now) k.args.f.now ≡ sizing (done (source_in k.in_ok-file.file))
measured k h =
    let told = k.in_ok-file.ensures in
    file_measured _ _ h (row_order_passes _) (file_reads _ _ k.in_ok-file.file told.answers told.file)

pub returns-in_err-measure_sound : goal.returns-in_err-measure_sound
returns-in_err-measure_sound c =
    let at = goal.at.returns-in_err-measure_sound c in
    let r = c.from_residual-in_err-measure_sound in
    let p = err_from_is_err_and r.result r.ensures.1 in
    let out = measured at.In_ok-file (passed at.Else-are_refused) in
    let all = measured_numbers _ c.in_err-measure_sound.ensures in
    rw (out, p.1, p.2) (record { answers = all.0; numbers = all.1 })

pub returns : goal.returns
returns c =
    let out = measured (goal.at.returns c).In_ok-file (passed (goal.at.returns c).Else-are_refused) in
    let all = measured_numbers _ c.in_ok-measure_sound.ensures in
    rw out (record { answers = all.0; numbers = all.1 })
