use mathlib.Core.Path.{◌≡◌}
use native.Mathlib.Omega.{arith}
use Rattle.image.proofs.WalkingLaws.{first_here}
use Rattle.image.proofs.AskingLaws.{found_here}
use Rattle.image.proofs.asking.find.Goals as goal

pub loop-c-init : goal.loop-c-init
loop-c-init c = (first_here _ _ c.first-c.ensures, omega arith)

pub returns : goal.returns
returns c =
    let l = c.loop-c in
    let e : l.c.number ≡ c.args.number = omega arith in
    rw (← e) (found_here _ _ _ l.invariant.0 c.block_at-2.ensures.tells)
