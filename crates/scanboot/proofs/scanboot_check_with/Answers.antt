-- The answer is packed, and small enough for that by the rules of the file and of the image.
use Rattle.fields.specs.Options.{in_order}
use Rattle.patterns.specs.Row.{options_of}
use Rattle.scanboot.proofs.AnswerLaws.{verdict_small}
use Rattle.scanboot.proofs.scanboot_check_with.Goals as goal

pub verdict-requires : goal.verdict-requires
verdict-requires c =
    let a = c.args in
    rw c.check.ensures.answers (verdict_small (in_order a.order (options_of a.patterns.now)) a.file.now a.image.now)
