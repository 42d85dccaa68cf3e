use native.Mathlib.Omega.{arith}
use mathlib.Core.Path.{refl}
use native.Mathlib.Nat.{zero-add}
use Rattle.fields.specs.Patch.{patch}
use Rattle.fields.proofs.PatchLaws.{patch_more}
use Rattle.fields.proofs.buffer.copy_front.Goals as goal

pub loop-i-init : goal.loop-i-init
unfolding patch
loop-i-init c = refl

pub loop-i-preserved : goal.loop-i-preserved
loop-i-preserved c =
    let more = patch_more c.args.to.now 0 c.args.from.now c.loop-i.i (omega arith) in
    rw c.loop-i.invariant (rw zero-add at more)
