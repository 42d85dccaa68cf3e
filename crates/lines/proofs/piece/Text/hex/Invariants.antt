-- The first i digits are put: those of what stands above the digits that follow.
use Prim.Native.Nat.{◌-◌, ◌*◌, ◌/◌, ◌^◌}
use Rattle.lines.specs.Text.{last_digits}
use Rattle.lines.specs.Put.{Puts}
use Rattle.lines.proofs.piece.Text.hex.Given as goal

abbrev pub invariant-loop-i : goal.invariant-loop-i
invariant-loop-i l = Puts l.initial.self (last_digits l.i (l.address / 2 ^ (32 - 4 * l.i))) l.self
