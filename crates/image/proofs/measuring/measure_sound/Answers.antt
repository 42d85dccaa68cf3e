-- The figures decide rule 14.
use native.Mathlib.Omega.{arith}
use Rattle.image.proofs.ConvertLaws.{length_is, count_is}
use Rattle.image.proofs.ConversionLaws.{sized_long, sizes}
use Rattle.image.proofs.measuring.measure_sound.Goals as goal

pub returns-then-made-gt16777216 : goal.returns-then-made-gt16777216
returns-then-made-gt16777216 c =
    let file = c.args.file.now in
    sized_long _ (omega (arith, length_is file.bytes.now file.sections file.entry))

pub returns : goal.returns
returns c =
    let file = c.args.file.now in
    let long = length_is file.bytes.now file.sections file.entry in
    let many = count_is file.bytes.now file.sections file.entry in
    sizes _ _ (omega (arith, long, many))
