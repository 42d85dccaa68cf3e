-- Of no section there is nothing to note.
use Rattle.coff.proofs.NotedLaws.{nothing_noted}
use Rattle.coff.proofs.ranges.Noted.nothing.Goals as goal

pub returns : goal.returns
returns c o f = nothing_noted o f _ c.none.ensures
