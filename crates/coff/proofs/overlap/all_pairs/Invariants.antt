-- No two of the first i sections meet, section i meets none of the first j, and all before it end at `top`.
use Prim.Native.Nat.{◌≤◌, ◌-◌}
use Rattle.fields.specs.Counting.{joined}
use Rattle.fields.specs.Rules.{Silent}
use Rattle.coff.specs.Marks.{is_marked}
use Rattle.coff.specs.Refusals.{overlap_rules}
use Rattle.coff.proofs.OverlapLaws.{Topped, Clear}
use Rattle.coff.proofs.overlap.all_pairs.Given as goal

abbrev pub invariant-loop-j : goal.invariant-loop-j
invariant-loop-j l = record { low : l.j ≤ l.i; clear : Clear (is_marked l.kept) l.headers.file.now l.i l.j }

abbrev pub invariant-pairs : goal.invariant-pairs
invariant-pairs l =
    record {
      low : l.i ≤ l.count;
      silent : Silent (joined (overlap_rules (is_marked l.kept) l.headers.file.now) l.i);
      topped : Topped (is_marked l.kept) l.headers.file.now l.i l.top;
    }

abbrev pub decreases-pairs : goal.decreases-pairs
decreases-pairs l = l.count - l.i
