-- The rule of a window is tested in two steps, so that no sum is made before it is known to fit.
use Prim.Native.Nat.{◌+◌, ◌^◌}
use mathlib.Core.Path.{◌≡◌}
use mathlib.Core.Bool.{true, false}
use native.Mathlib.Omega.{arith}
use borrow.Author.Tests.{lt-ltb, le-ltb}
use lib.Dec.{ltb}
use Rattle.fields.specs.Rules.{unless}
use Rattle.loader.proofs.window.Window.new.Goals as goal

pub returns-then-room-gt16777216-clause-answers : goal.returns-then-room-gt16777216-clause-answers
unfolding unless
returns-then-room-gt16777216-clause-answers c = rw (lt-ltb _ _ c.if-room-gt16777216.true)

pub returns-then-room-base-clause-answers : goal.returns-then-room-base-clause-answers
unfolding unless
returns-then-room-base-clause-answers c =
    let long : ltb 16777216 c.args.room ≡ false = le-ltb _ _ c.if-room-gt16777216.false in
    let far : ltb (2 ^ 32) (c.args.base + c.args.room) ≡ true = lt-ltb _ _ (omega (arith, c.if-room-base.true)) in
    rw (long, far)

pub returns-clause-answers : goal.returns-clause-answers
unfolding unless
returns-clause-answers c =
    let long : ltb 16777216 c.args.room ≡ false = le-ltb _ _ c.if-room-gt16777216.false in
    let far : ltb (2 ^ 32) (c.args.base + c.args.room) ≡ false = le-ltb _ _ (omega (arith, c.if-room-base.false, c.if-room-gt16777216.false)) in
    rw (long, far)
