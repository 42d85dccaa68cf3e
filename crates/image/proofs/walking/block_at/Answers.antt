-- The fields at a cursor are those of the block that stands there after undoing.
use Rattle.image.proofs.UndoneLaws.{ready_in, tells_in}
use Rattle.image.proofs.walking.block_at.Goals as goal

pub header_at-requires : goal.header_at-requires
header_at-requires c = ready_in _ _ _ c.requires

pub returns : goal.returns
returns c = tells_in _ _ _ c.requires _ c.header_at.ensures
