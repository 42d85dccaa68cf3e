-- Behind i blocks the window holds the parts of all of them, and the figure is their sizes, none of them more than an image can have.
use Prim.Native.Nat.{◌*◌, ◌-◌, ◌≤◌}
use mathlib.Core.Path.{◌≡◌}
use Rattle.fields.specs.Counting.{joined}
use Rattle.fields.specs.Program.{blocks_of_parts}
use Rattle.image.specs.Handed.{undone_in}
use Rattle.image.specs.Walking.{Here}
use Rattle.image.proofs.PartLaws.{image_part}
use Rattle.loader.specs.Placing.{placed, sizes_of}
use Rattle.loader.proofs.from_image.place_blocks.Given as goal

abbrev pub invariant-loop-c : goal.invariant-loop-c
invariant-loop-c l =
    record {
      here : Here (undone_in l.image) l.c;
      within : l.c.number ≤ l.image.blocks;
      figure : l.bytes ≡ sizes_of (blocks_of_parts (joined (image_part (undone_in l.image)) l.c.number));
      small : l.bytes ≤ 16777216 * l.c.number;
      places : l.window ≡ placed l.base l.initial.window (blocks_of_parts (joined (image_part (undone_in l.image)) l.c.number));
    }

abbrev pub decreases-loop-c : goal.decreases-loop-c
decreases-loop-c l = l.image.blocks - l.c.number
