-- The flag says that the bytes so far are equal.
use mathlib.Core.Path.{◌≡◌}
use lib.ListN.{length}
use Rattle.compare.specs.Matching.{all_below, equal_at}
use Rattle.compare.proofs.equal.equal.Given as goal

abbrev pub invariant-loop-a : goal.invariant-loop-a
invariant-loop-a l = l.same ≡ all_below (equal_at l.x l.y) (length l.yielded)
