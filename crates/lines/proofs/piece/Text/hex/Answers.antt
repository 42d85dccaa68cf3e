-- Each turn puts the digit that follows; after eight nothing of the number is left.
use Prim.Native.Nat.{◌+◌, ◌-◌, ◌*◌, ◌/◌, ◌%◌, ◌^◌}
use mathlib.Core.Path.{◌≡◌}
use native.Mathlib.Nat.{div-one}
use native.Mathlib.Omega.{arith}
use Rattle.lines.specs.Text.{last_digits, hex8}
use Rattle.lines.proofs.PutLaws.{puts_none, puts_then}
use Rattle.lines.proofs.DigitLaws.{digit_at, hex_more, length_last}
use Rattle.lines.proofs.piece.Text.hex.Goals as goal

pub loop-i-init : goal.loop-i-init
unfolding last_digits
loop-i-init c = puts_none _

pub byte-requires : goal.byte-requires
byte-requires c = omega (arith, length_last c.loop-i.i (c.args.address / 2 ^ (32 - 4 * c.loop-i.i)))

pub loop-i-preserved : goal.loop-i-preserved
loop-i-preserved c =
    let i = c.loop-i.i in
    let shift = 28 - 4 * i in
    let here : 32 - 4 * (i + 1) ≡ shift = omega arith in
    let above : 32 - 4 * i ≡ shift + 4 = omega arith in
    let digit = rw (digit_at (c.args.address / 2 ^ shift % 16) (omega arith)) at c.byte.ensures in
    rw (here, hex_more c.args.address i shift)
    (puts_then (rw above at c.loop-i.invariant) digit)

pub returns : goal.returns
unfolding hex8
returns c =
    let i = c.loop-i.i in
    let e : i ≡ 8 = omega arith in
    rw (e, div-one c.args.address) at c.loop-i.invariant
