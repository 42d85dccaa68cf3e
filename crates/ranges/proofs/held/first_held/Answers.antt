use mathlib.Core.Path.{sym, ◌∙◌}
use native.Mathlib.Omega.{arith}
use Rattle.ranges.proofs.RowLaws.{passed_first, passed_all, passed_on, passed_found}
use Rattle.ranges.proofs.held.first_held.Goals as goal

pub loop-c-init : goal.loop-c-init
loop-c-init c = passed_first _ _ _ _ c.first-c.ensures

pub returns-then-meets : goal.returns-then-meets
returns-then-meets c = passed_found _ _ _ _ c.loop-c.invariant (omega arith) _ c.range_at-b.ensures (sym c.meets.ensures ∙ c.if-meets.true)

pub loop-c-preserved : goal.loop-c-preserved
loop-c-preserved c = passed_on _ _ _ _ c.loop-c.invariant (omega arith) _ c.range_at-b.ensures (sym c.meets.ensures ∙ c.if-meets.false)

pub returns : goal.returns
returns c = passed_all _ _ _ _ c.loop-c.invariant (omega arith)
