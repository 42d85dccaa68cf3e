-- The answer from the start is the answer from here on, with so many patterns before; and all are these and those.
use Prim.Native.Nat.{◌+◌, ◌≤◌}
use mathlib.Core.Path.{◌≡◌}
use lib.ListN.{length, drop}
use Rattle.fields.specs.Options.{are_refused}
use Rattle.patterns.specs.Row.{patterns_in}
use Rattle.patterns.proofs.RowLaws.{refused_after}
use Rattle.patterns.proofs.row.are_refused.Given as goal

abbrev pub invariant-loop : goal.invariant-loop
invariant-loop l =
    record {
      few : l.counter ≤ 16;
      same : are_refused (patterns_in l.row) ≡ refused_after l.counter (patterns_in (drop l.patterns.at l.patterns.row.now));
      whole : length (patterns_in l.row) ≡ l.counter + length (patterns_in (drop l.patterns.at l.patterns.row.now));
    }
