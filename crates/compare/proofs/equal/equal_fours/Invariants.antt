-- The flag says that the fours so far are equal.
use Prim.Native.Nat.{◌*◌}
use mathlib.Core.Path.{◌≡◌}
use lib.ListN.{length, take}
use Rattle.fields.specs.Turning.{turned}
use Rattle.compare.specs.Matching.{equal_bytes}
use Rattle.compare.proofs.equal.equal_fours.Given as goal

abbrev pub invariant-loop-a : goal.invariant-loop-a
invariant-loop-a l = l.same ≡ equal_bytes (take (4 * length l.yielded) l.x) (take (4 * length l.yielded) (turned l.y))
