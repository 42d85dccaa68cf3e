-- Section by section the sum is that of the parts so far.
use Prim.Native.Nat.{◌*◌, ◌≤◌}
use mathlib.Core.Path.{◌≡◌}
use Rattle.fields.specs.Counting.{joined}
use Rattle.fields.specs.Program.{blocks_of_parts}
use Rattle.coff.specs.Handed.{part_in}
use Rattle.loader.specs.Placing.{sizes_of}
use Rattle.compare.proofs.placement.part_sizes.Given as goal

abbrev pub invariant-loop-i : goal.invariant-loop-i
invariant-loop-i l = (l.bytes ≡ sizes_of (blocks_of_parts (joined (part_in l.file) l.i))) × (l.bytes ≤ 16777216 * l.i)
