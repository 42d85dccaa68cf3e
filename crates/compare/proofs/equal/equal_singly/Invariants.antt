-- The flag says that the first i bytes are equal.
use mathlib.Core.Path.{◌≡◌}
use lib.ListN.{take, drop}
use Rattle.fields.specs.Turning.{turned}
use Rattle.compare.specs.Matching.{equal_bytes}
use Rattle.compare.proofs.equal.equal_singly.Given as goal

abbrev pub invariant-loop-i : goal.invariant-loop-i
invariant-loop-i l = l.same ≡ equal_bytes (take l.i l.x) (take l.i (drop l.from (turned l.area)))
