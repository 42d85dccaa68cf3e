-- Which of the four numbers it is, the tests of `i` tell.
use Prim.Native.Nat.{ℕ, ◌/◌}
use mathlib.Core.Path.{◌≡◌, refl}
use native.Mathlib.Omega.{arith}
use Rattle.coff.specs.declared.Marks.{Marks}
use Rattle.coff.specs.Marks.{word_of}
use Rattle.coff.proofs.Marks.word.Goals as goal

named : (m : Marks) (i w : ℕ) → i / 64 ≡ w → word_of m w ≡ word_of m (i / 64)
named m i w e = rw e refl

pub returns-then-i-lt64 : goal.returns-then-i-lt64
unfolding word_of
returns-then-i-lt64 c = named c.args.self.now c.args.i 0 (omega (arith, c.if-i-lt64.true))

pub returns-then-i-lt128 : goal.returns-then-i-lt128
unfolding word_of
returns-then-i-lt128 c = named c.args.self.now c.args.i 1 (omega (arith, c.if-i-lt64.false, c.if-i-lt128.true))

pub returns-then-i-lt192 : goal.returns-then-i-lt192
unfolding word_of
returns-then-i-lt192 c = named c.args.self.now c.args.i 2 (omega (arith, c.if-i-lt128.false, c.if-i-lt192.true))

pub returns : goal.returns
unfolding word_of
returns c = named c.args.self.now c.args.i 3 (omega (arith, c.if-i-lt192.false, c.requires))
