-- A few ranges more are held in each turn, and the others are walked over up to the first that was found to meet one before them.
use Prim.Native.Nat.{◌-◌}
use Rattle.ranges.proofs.AcrossLaws.{Crossed}
use Rattle.ranges.proofs.across.first_across.Given as goal

abbrev pub invariant-loop-c : goal.invariant-loop-c
invariant-loop-c l = Crossed l.all l.others l.found l.c

abbrev pub decreases-loop-c : goal.decreases-loop-c
decreases-loop-c l = l.all.count - l.c.number
