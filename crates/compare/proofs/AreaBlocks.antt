-- A block of an image by its data area: how long it is, and a part of its bytes.
use Prim.Native.Nat.{ℕ, ◌+◌, ◌-◌, ◌≤◌}
use mathlib.Core.Path.{◌≡◌, sym}
use native.Mathlib.Omega.{arith}
use lib.ListN.{length, take, drop}
use lib.Seq.{take-take, length-take-le}
use Rattle.fields.proofs.PieceLaws.{drop-take}
use Rattle.image.specs.Order.{area_in}
use Rattle.image.proofs.OrderLaws.{length_area_in}
use Rattle.compare.specs.declared.stored.Stored.{Stored}
use Rattle.compare.specs.Stored.{block_of}

module _ (y : Stored) where
  pub block_long : length (block_of y).bytes ≡ y.part.size
  block_long = length-take-le y.part.size (area_in y.order y.area.now) (omega (arith, length_area_in y.order y.area.now, y.whole))

  -- what is compared stands inside the block's bytes
  pub block_part : (n from : ℕ) → from + n ≤ y.part.size → take n (drop from (area_in y.order y.area.now)) ≡ take n (drop from (block_of y).bytes)
  block_part n from h =
      let area = area_in y.order y.area.now in
      let e : y.part.size ≡ from + (y.part.size - from) = omega arith in
      sym (rw (e, drop-take from (y.part.size - from) area) (take-take n (y.part.size - from) (drop from area) (omega arith)))
