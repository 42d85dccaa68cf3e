-- The bit is read as the definition reads it.
use mathlib.Core.Path.{refl}
use Rattle.coff.specs.Marks.{is_marked}
use Rattle.coff.proofs.Marks.has.Goals as goal

pub returns : goal.returns
unfolding is_marked
returns c = rw c.word.ensures refl
