-- The cursor stands at the range of its number, and what is read there is that one's.
use Rattle.ranges.proofs.RowLaws.{ready_at, range_of}
use Rattle.ranges.proofs.lined.Ranges.range_at.Goals as goal

pub range_at-requires : goal.range_at-requires
range_at-requires c = ready_at _ _ c.requires

pub returns : goal.returns
returns c = range_of _ _ c.requires _ c.range_at.ensures
