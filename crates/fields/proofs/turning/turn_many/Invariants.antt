-- The first i sixteens are written, reversed in their fours.
use Prim.Native.Nat.{◌*◌}
use mathlib.Core.Path.{◌≡◌}
use Rattle.fields.specs.Number.{field_at}
use Rattle.fields.specs.Patch.{patch}
use Rattle.fields.specs.Turning.{turned}
use Rattle.fields.proofs.turning.turn_many.Given as goal

abbrev pub invariant-loop-i : goal.invariant-loop-i
invariant-loop-i l = l.to ≡ patch l.initial.to l.at (turned (field_at (4 * (4 * l.i)) l.from l.at))
