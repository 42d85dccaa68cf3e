-- The first i rows are written, reversed in their fours.
use Prim.Native.Nat.{◌*◌}
use mathlib.Core.Path.{◌≡◌}
use Rattle.fields.specs.Number.{field_at}
use Rattle.fields.specs.Patch.{patch}
use Rattle.fields.specs.Turning.{turned}
use Rattle.fields.proofs.turning.turn_rows.Given as goal

abbrev pub invariant-loop-i : goal.invariant-loop-i
invariant-loop-i l = l.to ≡ patch l.initial.to 0 (turned (field_at (4 * (32 * l.i)) l.from 0))
