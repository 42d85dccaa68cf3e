-- The whole fours are written, then one byte more at each turn.
use Prim.Native.Nat.{◌-◌}
use mathlib.Core.Path.{◌≡◌}
use lib.ListN.{take, drop}
use Rattle.fields.specs.Patch.{patch}
use Rattle.fields.specs.Turning.{turned}
use Rattle.image.specs.Layout.{rounded_up}
use Rattle.image.proofs.area.copy_reversed.Given as goal

abbrev pub invariant-loop-i : goal.invariant-loop-i
invariant-loop-i l = l.to ≡ patch l.initial.to l.whole (take (l.i - l.whole) (drop l.whole (turned (take (rounded_up l.size) (drop l.raw l.s)))))
