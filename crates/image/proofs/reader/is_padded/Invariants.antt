-- Each byte of the padding that was passed is zero.
use Prim.Native.Nat.{◌+◌}
use mathlib.Core.Path.{◌≡◌}
use lib.ListN.{drop}
use Rattle.image.specs.Layout.{rounded_up}
use Rattle.image.specs.Order.{area_at}
use Rattle.image.specs.Reading.{zeros}
use Rattle.image.proofs.FieldLaws.{zeros_in}
use Rattle.image.proofs.reader.is_padded.Given as goal

abbrev pub invariant-loop-i : goal.invariant-loop-i
invariant-loop-i l =
    let area = area_at l.order l.s (l.at + 12) l.size in
    zeros (drop l.size area) ≡ zeros_in area l.i (rounded_up l.size)
