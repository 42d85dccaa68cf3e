-- The bit is above all others in its number, so that the sum does not wrap.
use Prim.Native.Nat.{◌/◌, ◌%◌}
use native.Mathlib.Omega.{arith}
use Rattle.coff.specs.Marks.{word_of, with_bit}
use Rattle.coff.proofs.MarkLaws.{bit_fits, new_bit}
use Rattle.coff.proofs.Marks.mark.Goals as goal

pub overflow_add-self : goal.overflow_add-self
unfolding word_of
overflow_add-self c = omega (arith, bit_fits (word_of c.args.self.now (c.args.i / 64)) (c.args.i % 64) c.requires.1 (omega arith))

pub returns : goal.returns
unfolding word_of with_bit
returns c = new_bit c.args.self.now c.args.i
