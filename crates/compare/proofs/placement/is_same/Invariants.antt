-- Block by block: all before the cursor are matched, and their bytes are summed. At the end the sums decide.
use Prim.Native.Nat.{◌-◌}
use Rattle.compare.proofs.PlacementLaws.{Walked}
use Rattle.compare.proofs.placement.is_same.Given as goal

abbrev pub invariant-loop-c : goal.invariant-loop-c
invariant-loop-c l = Walked l.file l.image l.c l.hint l.bytes

abbrev pub decreases-loop-c : goal.decreases-loop-c
decreases-loop-c l = l.image.blocks - l.c.number
