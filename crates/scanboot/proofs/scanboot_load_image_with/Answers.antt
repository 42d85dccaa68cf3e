-- The answer is packed, and small enough for that by the rules of the image; the window is as the loader left it.
use lib.ListN.{length}
use Rattle.fields.specs.Options.{plain, in_order}
use Rattle.scanboot.proofs.AnswerLaws.{load_image_small}
use Rattle.scanboot.proofs.scanboot_load_image_with.Goals as goal

pub loading-requires : goal.loading-requires
loading-requires c =
    let a = c.args in
    rw c.load_image.ensures.answers (load_image_small (in_order a.order plain) a.image.now a.base (length a.window.now))
