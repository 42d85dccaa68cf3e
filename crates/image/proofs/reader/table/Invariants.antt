-- At each turn the answer from the start is the answer from here; each return is the first rule that holds here after undoing.
use Prim.Native.Nat.{◌-◌}
use mathlib.Core.Path.{◌≡◌}
use lib.ListN.{length}
use Rattle.image.specs.Order.{undone}
use Rattle.image.proofs.UndoneLaws.{Alongside}
use Rattle.image.proofs.ReaderLaws.{Going}
use Rattle.image.proofs.reader.table.Given as goal

abbrev pub invariant-loop-c : goal.invariant-loop-c
invariant-loop-c l = (length (undone l.order l.s) ≡ length l.s) × Going (undone l.order l.s) l.c × Alongside l.order l.s (undone l.order l.s) l.c

abbrev pub decreases-loop-c : goal.decreases-loop-c
decreases-loop-c l = 4097 - l.c.number
