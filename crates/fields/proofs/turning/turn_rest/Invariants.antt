-- Behind the first of them, four bytes more are written at each turn, reversed.
use Prim.Native.Nat.{◌*◌, ◌-◌}
use mathlib.Core.Path.{◌≡◌}
use Rattle.fields.specs.Number.{field_at}
use Rattle.fields.specs.Patch.{patch}
use Rattle.fields.specs.Turning.{turned}
use Rattle.fields.proofs.turning.turn_rest.Given as goal

abbrev pub invariant-loop-i : goal.invariant-loop-i
invariant-loop-i l = l.to ≡ patch l.initial.to (4 * l.first) (turned (field_at (4 * (l.i - l.first)) l.from (4 * l.first)))
