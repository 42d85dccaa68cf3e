-- The answer is packed, and small enough for that by the rules of the file and of the image.
use Rattle.patterns.specs.Row.{options_of}
use Rattle.scanboot.proofs.AnswerLaws.{measured_small}
use Rattle.scanboot.proofs.scanboot_measure_with.Goals as goal

pub conversion-requires : goal.conversion-requires
conversion-requires c =
    let a = c.args in
    rw c.measure_file.ensures.answers (measured_small (options_of a.patterns.now) a.file.now)
