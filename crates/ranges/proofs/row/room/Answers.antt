-- Each sum is the definition's, and nothing in it wraps.
use Rattle.ranges.specs.Row.{room_of}
use Rattle.ranges.proofs.row.room.Goals as goal

pub returns-in-Blocks : goal.returns-in-Blocks
unfolding room_of
returns-in-Blocks c = rw c.in-Blocks.is

pub returns-in-Records : goal.returns-in-Records
unfolding room_of
returns-in-Records c = rw c.in-Records.is
