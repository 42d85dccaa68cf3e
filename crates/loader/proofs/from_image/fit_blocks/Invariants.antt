-- As long as each block fits, all before it do; the first that does not decides.
use Prim.Native.Nat.{◌-◌, ◌≤◌}
use Rattle.fields.specs.Counting.{joined}
use Rattle.fields.specs.Rules.{Silent}
use Rattle.image.specs.Handed.{undone_in}
use Rattle.image.specs.Walking.{Here}
use Rattle.image.proofs.PartLaws.{image_part}
use Rattle.loader.specs.Loading.{outside_rules}
use Rattle.loader.proofs.from_image.fit_blocks.Given as goal

abbrev pub invariant-loop-c : goal.invariant-loop-c
invariant-loop-c l =
    record {
      here : Here (undone_in l.image) l.c;
      within : l.c.number ≤ l.image.blocks;
      fit : Silent (outside_rules l.window.base l.window.room (joined (image_part (undone_in l.image)) l.c.number));
    }

abbrev pub decreases-loop-c : goal.decreases-loop-c
decreases-loop-c l = l.image.blocks - l.c.number
