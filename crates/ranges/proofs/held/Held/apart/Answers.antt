-- From the range at k to the one nearest to it.
use Rattle.ranges.specs.Cover.{apart_at}
use Rattle.ranges.proofs.held.Held.apart.Goals as goal

pub returns : goal.returns
unfolding apart_at
returns c = rw (← c.at.ensures.0, ← c.at.ensures.1, ← c.beside.ensures.0) c.gap.ensures
