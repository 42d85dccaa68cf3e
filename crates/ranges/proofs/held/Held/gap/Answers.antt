-- The one ends before the other begins, or begins behind its end, or neither.
use native.Mathlib.Omega.{arith}
use borrow.Author.Tests.{lt-ltb, le-ltb}
use Rattle.ranges.specs.Cover.{gap_to}
use Rattle.ranges.proofs.held.Held.gap.Goals as goal

pub returns-then-here-span : goal.returns-then-here-span
unfolding gap_to
returns-then-here-span c = rw (← c.at-here.ensures.0, ← c.at-here.ensures.1, lt-ltb _ _ c.if-here-span.true)

pub returns-then-span-here : goal.returns-then-span-here
unfolding gap_to
returns-then-span-here c = rw (← c.at-here.ensures.0, ← c.at-here.ensures.1, le-ltb _ _ c.if-here-span.false)

pub returns-else-span-here : goal.returns-else-span-here
unfolding gap_to
returns-else-span-here c = rw (← c.at-here.ensures.0, ← c.at-here.ensures.1, le-ltb _ _ c.if-here-span.false) (omega arith)
