-- The part that was lent comes back with the block's bytes over its front, which is the window with the bytes from there on.
use Prim.Native.Nat.{◌-◌}
use mathlib.Core.Path.{◌≡◌}
use native.Mathlib.Omega.{arith}
use lib.ListN.{length, take}
use lib.Seq.{length-take-le}
use Rattle.fields.proofs.PatchLaws.{part_front}
use Rattle.image.specs.Order.{area_at}
use Rattle.image.proofs.AreaAtLaws.{length_area_at}
use Rattle.loader.proofs.placing.place_area.Goals as goal

pub returns : goal.returns
returns c =
    let a = c.args in
    let at = a.part.load.0 - a.base in
    let bytes = take a.part.size (area_at a.order a.s.now a.part.raw.0 a.part.size) in
    let k = length_area_at a.s.now a.part.raw.0 a.part.size c.requires.2 a.order in
    let l : length bytes ≡ a.part.size = length-take-le a.part.size _ (omega (arith, k)) in
    rw c.copy_bytes.ensures
    (part_front at (length a.window.now - at) a.window.now bytes (omega (arith, c.requires, l)) (omega (arith, c.requires)))
