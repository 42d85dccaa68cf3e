-- The first i bytes are written over the front.
use mathlib.Core.Path.{◌≡◌}
use lib.ListN.{take}
use Rattle.fields.specs.Patch.{patch}
use Rattle.fields.proofs.buffer.copy_front.Given as goal

abbrev pub invariant-loop-i : goal.invariant-loop-i
invariant-loop-i l = l.to ≡ patch l.initial.to 0 (take l.i l.from)
