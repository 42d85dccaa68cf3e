-- Plain bytes take a character each up to a star, which is handed both rests. Behind it each piece is passed with the row of stars that follows it, and what is left of both decides; where that is never taken, no star before it has a place left to try. The bytes left in pattern and name fall with every two calls.
use Prim.Native.Nat.{◌+◌, ◌*◌, ◌≤◌}
use mathlib.Core.Path.{◌≡◌}
use mathlib.Core.List.{◌∷◌}
use lib.ListN.{length}
use Rattle.patterns.specs.Taking.{star, takes}
use Rattle.patterns.proofs.StepLaws.{Run}
use Rattle.patterns.proofs.matching.+steps.Given as goal

abbrev pub decreases-literal_step : goal.decreases-literal_step
decreases-literal_step l = 2 * (length l.p.now + length l.name.now)

abbrev pub decreases-star_step : goal.decreases-star_step
decreases-star_step l = 2 * (length l.p.now + length l.name.now) + 1

abbrev pub invariant-literal_step-loop-i : goal.invariant-literal_step-loop-i
invariant-literal_step-loop-i l = Run l.p l.name l.i

abbrev pub invariant-star_step-loop-piece : goal.invariant-star_step-loop-piece
invariant-star_step-loop-piece l = (length l.left ≤ length l.p) × (length l.rest ≤ length l.name) × (takes (star ∷ l.left) l.rest ≡ takes (star ∷ l.p) l.name)

abbrev pub decreases-star_step-loop-piece : goal.decreases-star_step-loop-piece
decreases-star_step-loop-piece l = length l.left
