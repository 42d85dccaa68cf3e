-- It is asked for the range at k, which is left out itself.
use Rattle.ranges.specs.Cover.{beside_of}
use Rattle.ranges.proofs.held.Held.beside.Goals as goal

pub returns : goal.returns
unfolding beside_of
returns c = (rw (← c.at.ensures.0, ← c.at.ensures.1) c.nearest.ensures.0, c.nearest.ensures.1)
