-- The answer is packed, and small enough for that since no text is long; the buffer is as listing left it.
use lib.ListN.{length}
use Rattle.scanboot.proofs.AnswerLaws.{listing_small}
use Rattle.scanboot.proofs.scanboot_list.Goals as goal

pub listing-requires : goal.listing-requires
listing-requires c =
    let a = c.args in
    rw c.list.ensures.answers (listing_small a.file.now (length a.text.now))
