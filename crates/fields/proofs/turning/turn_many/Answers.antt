use Prim.Native.Nat.{◌+◌, ◌*◌}
use mathlib.Core.Path.{refl, ◌∙◌}
use native.Mathlib.Omega.{arith}
use Rattle.fields.proofs.TurnedNumberLaws.{turned_none, turned_on}
use Rattle.fields.proofs.turning.turn_many.Goals as goal

pub loop-i-init : goal.loop-i-init
loop-i-init c = turned_none c.args.to.now c.args.from.now c.args.at 0 refl

pub loop-i-preserved : goal.loop-i-preserved
loop-i-preserved c =
    let a = c.args in
    let i = c.loop-i.i in
    c.turn_sixteen.ensures ∙ rw c.loop-i.invariant (turned_on a.to.now a.from.now a.at (4 * i) 16 (a.at + 16 * i) (4 * (4 * (i + 1))) (omega arith) (omega arith) (omega (arith, c.requires)))
