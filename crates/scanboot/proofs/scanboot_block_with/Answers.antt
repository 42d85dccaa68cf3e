-- The answer is packed, and small enough for that by the rules of the image.
use Rattle.fields.specs.Options.{plain, in_order}
use Rattle.scanboot.proofs.AnswerLaws.{asked_small}
use Rattle.scanboot.proofs.scanboot_block_with.Goals as goal

pub asked-requires : goal.asked-requires
asked-requires c =
    let a = c.args in
    rw c.ask.ensures.answers (asked_small (in_order a.order plain) a.image.now a.number)
