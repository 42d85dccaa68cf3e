use mathlib.Core.Path.{refl}
use native.Mathlib.Omega.{arith}
use Rattle.ranges.proofs.AcrossLaws.{filled_first, filled_on}
use Rattle.ranges.proofs.across.hold_few.Goals as goal

pub loop-k-init : goal.loop-k-init
loop-k-init c = filled_first _ _ _ _ _ c.requires.0.here refl

pub loop-k-preserved : goal.loop-k-preserved
loop-k-preserved c =
    let long = c.loop-k.held.long in
    rw (c.put.ensures.0, c.put.ensures.1) (filled_on _ _ _ _ _ _ c.loop-k.invariant (omega (arith, long)) (omega (arith, long)) _ c.range_at-b.ensures)
