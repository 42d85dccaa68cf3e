-- After i sections the window holds the parts of all of them, and the figure is their sizes, each below 2 ^ 32.
use Prim.Native.Nat.{◌*◌, ◌≤◌}
use mathlib.Core.Path.{◌≡◌}
use Rattle.fields.specs.Counting.{joined}
use Rattle.fields.specs.Program.{blocks_of_parts}
use Rattle.coff.specs.Handed.{part_in}
use Rattle.loader.specs.Placing.{placed, sizes_of}
use Rattle.loader.proofs.from_coff.place_parts.Given as goal

abbrev pub invariant-loop-i : goal.invariant-loop-i
invariant-loop-i l =
    record {
      figure : l.bytes ≡ sizes_of (blocks_of_parts (joined (part_in l.file) l.i));
      small : l.bytes ≤ 4294967296 * l.i;
      places : l.window ≡ placed l.base l.initial.window (blocks_of_parts (joined (part_in l.file) l.i));
    }
