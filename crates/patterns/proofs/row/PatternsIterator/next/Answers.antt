-- The pattern here is the bytes up to the next zero, and behind that byte stand the others.
use Prim.Native.Nat.{◌+◌, ◌≤◌}
use mathlib.Core.Path.{ap}
use native.Mathlib.Omega.{arith}
use lib.ListN.{length}
use Rattle.std.proofs.Common.{rules}
use Rattle.patterns.proofs.RowLaws.{none_behind, size_inside, patterns_here}
use Rattle.patterns.proofs.row.PatternsIterator.next.Goals.{After-before_zero}
use Rattle.patterns.proofs.row.PatternsIterator.next.Goals as goal

pub returns-then-self-at-clause-steps : goal.returns-then-self-at-clause-steps
returns-then-self-at-clause-steps c =
    let none = none_behind c.args.self.now.row.now c.args.self.now.at (omega arith) in
    (none, none)

-- it ends inside the row
counted : (k : After-before_zero) → k.args.self.now.at + k.before_zero.result ≤ length k.args.self.now.row.now
counted k =
    size_inside k.args.self.now.row.now k.args.self.now.at k.before_zero.result (omega arith) k.before_zero.ensures

pub overflow_add-end : goal.overflow_add-end
overflow_add-end c = omega (arith, counted c)

pub overflow_add-self : goal.overflow_add-self
overflow_add-self c = omega (arith, counted c)

pub slice_bounds-result-end : goal.slice_bounds-result-end
slice_bounds-result-end c = omega (arith, counted (goal.at.slice_bounds-result-end c).After-before_zero)

pub returns-clause-steps : goal.returns-clause-steps
returns-clause-steps c =
    patterns_here c.args.self.now.row.now c.args.self.now.at c.before_zero.result (omega arith) c.before_zero.ensures

pub returns-clause-goes : goal.returns-clause-goes
returns-clause-goes c =
    let fewer = ap length (returns-clause-steps c) in
    search rules
