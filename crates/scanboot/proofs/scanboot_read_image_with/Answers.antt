-- The answer is packed, and small enough for that by the rules of the image, which is made of bytes.
use Rattle.fields.specs.Options.{plain, in_order}
use Rattle.fields.proofs.NumberLaws.{bytes_of}
use Rattle.scanboot.proofs.AnswerLaws.{reading_small}
use Rattle.scanboot.proofs.scanboot_read_image_with.Goals as goal

pub reading-requires : goal.reading-requires
reading-requires c =
    let a = c.args in
    let image = a.image.now in
    rw c.read_in.ensures.answers (reading_small (in_order a.order plain) image (bytes_of image c.type_inv.image))
