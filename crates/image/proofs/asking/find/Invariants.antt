-- Block by block up to the number; what is read there is the answer.
use Prim.Native.Nat.{◌-◌, ◌≤◌}
use Rattle.image.specs.Handed.{undone_in}
use Rattle.image.specs.Walking.{Here}
use Rattle.image.proofs.asking.find.Given as goal

abbrev pub invariant-loop-c : goal.invariant-loop-c
invariant-loop-c l = Here (undone_in l.image) l.c × (l.c.number ≤ l.number)

abbrev pub decreases-loop-c : goal.decreases-loop-c
decreases-loop-c l = l.number - l.c.number
