use mathlib.Core.Path.{◌≡◌, refl, sym, ◌∙◌}
use native.Mathlib.Omega.{arith}
use lib.ListN.{length}
use Rattle.fields.proofs.CountingLaws.{any_none, any_on}
use Rattle.ranges.specs.Held.{meets_at, meets_held}
use Rattle.ranges.proofs.held.Held.meets.Goals as goal

pub loop-k-init : goal.loop-k-init
loop-k-init c = sym (any_none _)

pub loop-k-preserved : goal.loop-k-preserved
unfolding meets_at
loop-k-preserved c = rw c.loop-k.invariant (sym (any_on _ _))

pub returns : goal.returns
unfolding meets_held
returns c =
    let e : c.loop-k.k ≡ length c.args.self.firsts.now = omega arith in
    c.loop-k.invariant ∙ rw e refl
