-- The smaller first address and the larger last one.
use Rattle.ranges.specs.Cover.{reached, stretched}
use Rattle.ranges.proofs.cover.widen.Goals as goal

pub returns-clause-firsts : goal.returns-clause-firsts
unfolding reached
returns-clause-firsts c = rw c.min.ensures

pub returns-clause-lasts : goal.returns-clause-lasts
unfolding stretched
returns-clause-lasts c = rw c.max.ensures
