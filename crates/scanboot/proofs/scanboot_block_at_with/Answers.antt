-- The answer is packed, and small enough for that by the rules of the place in an image that is made of bytes.
use Rattle.fields.specs.Options.{plain, in_order}
use Rattle.fields.proofs.NumberLaws.{bytes_of}
use Rattle.scanboot.proofs.AnswerLaws.{standing_small}
use Rattle.scanboot.proofs.scanboot_block_at_with.Goals as goal

pub asked-requires : goal.asked-requires
asked-requires c =
    let a = c.args in
    rw c.stands_at.ensures.answers (standing_small (in_order a.order plain) a.image.now a.place (bytes_of a.image.now c.type_inv.image))
