-- The answer is packed, and small enough for that by the rules of the file and of the image; the output is as the converter left it.
use lib.ListN.{length}
use Rattle.fields.specs.Options.{in_order}
use Rattle.patterns.specs.Row.{options_of}
use Rattle.scanboot.proofs.AnswerLaws.{conversion_small}
use Rattle.scanboot.proofs.scanboot_convert_with.Goals as goal

pub conversion-requires : goal.conversion-requires
conversion-requires c =
    let a = c.args in
    rw c.convert.ensures.answers (conversion_small (in_order a.order (options_of a.patterns.now)) a.file.now (length a.out.now))
