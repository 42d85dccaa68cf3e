-- In each turn the rest of the table, behind the records that are counted, decides as the whole table does.
use Prim.Native.Nat.{◌+◌, ◌-◌, ◌≤◌}
use lib.ListN.{take}
use Rattle.fields.specs.Turning.{turned_if}
use Rattle.records.proofs.CountedLaws.{Counting}
use Rattle.records.proofs.counting.count.Given as goal

abbrev pub invariant-loop-at : goal.invariant-loop-at
invariant-loop-at l = (l.at ≤ l.size + 7) × Counting (take l.size (turned_if l.turned l.t)) l.at l.records

abbrev pub decreases-loop-at : goal.decreases-loop-at
decreases-loop-at l = l.size + 8 - l.at
