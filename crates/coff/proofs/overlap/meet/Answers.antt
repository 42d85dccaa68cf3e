-- The tests are the definition's.
use Rattle.fields.specs.Program.{share}
use Rattle.coff.specs.Refusals.{share_load}
use Rattle.coff.proofs.overlap.meet.Goals as goal

pub returns : goal.returns
unfolding share_load share
returns c = cc
