-- The length and the number of the blocks of the first i sections; each adds its own.
use Prim.Native.Nat.{◌+◌, ◌*◌, ◌≤◌}
use mathlib.Core.Path.{◌≡◌}
use lib.ListN.{length}
use Rattle.fields.specs.Counting.{joined}
use Rattle.fields.specs.Program.{blocks_of_parts}
use Rattle.coff.specs.Handed.{part_in}
use Rattle.image.specs.Layout.{spans_of}
use Rattle.image.proofs.measuring.measure.Given as goal

abbrev pub invariant-loop-i : goal.invariant-loop-i
invariant-loop-i l = (l.length ≡ 8 + spans_of (blocks_of_parts (joined (part_in l.file) l.i))) × (l.kept ≡ length (joined (part_in l.file) l.i)) × (l.length ≤ 8 + 16777231 * l.i) × (l.kept ≤ l.i)
