-- The one is widened by the other, whose place is taken then.
use Rattle.ranges.specs.Cover.{firsts_joined, lasts_joined}
use Rattle.ranges.proofs.cover.join.Goals as goal

pub returns-clause-firsts : goal.returns-clause-firsts
unfolding firsts_joined
returns-clause-firsts c = rw (c.widen.ensures.firsts, c.at-second.ensures.0)

pub returns-clause-lasts : goal.returns-clause-lasts
unfolding lasts_joined
returns-clause-lasts c = rw (c.widen.ensures.lasts, c.at-second.ensures.1)
