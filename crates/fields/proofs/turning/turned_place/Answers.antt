-- The sum is the definition, and nothing in it wraps.
use mathlib.Core.Path.{refl}
use Rattle.fields.specs.Turning.{turned_place}
use Rattle.fields.proofs.turning.turned_place.Goals as goal

pub returns : goal.returns
unfolding turned_place
returns c = refl
