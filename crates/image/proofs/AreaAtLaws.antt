-- The data area of a block in an order: its length, each byte of it where it stands, and its bytes as they are copied.
use Prim.Native.Nat.{ℕ, ◌+◌, ◌*◌, ◌-◌, ◌/◌, ◌<◌, ◌≤◌}
use mathlib.Core.Path.{◌≡◌, refl, ap, sym, ◌∙◌}
use mathlib.Core.Bool.{Bool, true, false, cond}
use mathlib.Core.List.{List, [], ◌∷◌}
use native.Mathlib.Omega.{arith}
use lib.ListN.{length, take, drop, get_or, set, length-drop}
use lib.Seq.{get_or-take, get_or-drop, take-take, take_all, take-add, length-take-le}
use Rattle.fields.specs.Patch.{patch}
use Rattle.fields.proofs.PatchLaws.{patch_more, patch_then}
use Rattle.fields.specs.Turning.{turned, turned_place, turned_if}
use Rattle.fields.proofs.TurningLaws.{get_or-turned, take-turned}
use Rattle.image.specs.Layout.{rounded_up}
use Rattle.image.specs.Order.{turns_data, area_in, place_in, area_at}
use Rattle.image.specs.Reading.{zeros}
use Rattle.image.proofs.FieldLaws.{zeros_in}
use Rattle.image.proofs.OrderLaws.{length_area_in}

pub area_at_lem : (order : ℕ) (s : List ℕ) (raw size : ℕ) → area_at order s raw size ≡ area_in order (take (rounded_up size) (drop raw s))
unfolding area_at
area_at_lem order s raw size = refl

-- a byte of a four stays in it
pub turned_low : (size i : ℕ) → i < rounded_up size → turned_place i < rounded_up size
unfolding turned_place
turned_low size i h = omega arith

pub place_low : (order size i : ℕ) → i < rounded_up size → place_in order i < rounded_up size
unfolding place_in
place_low order size i h = go (turns_data order)
  where
    go : (t : Bool) → cond t (turned_place i) i < rounded_up size
    go true = turned_low size i h
    go false = h

module _ (s : List ℕ) (raw size : ℕ) (h : raw + rounded_up size ≤ length s) where
  abbrev there : List ℕ
  there = take (rounded_up size) (drop raw s)

  pub length_there : length there ≡ rounded_up size
  length_there = length-take-le (rounded_up size) (drop raw s) (simp length-drop (omega arith))

  byte_there : (j : ℕ) → j < rounded_up size → get_or there j 0 ≡ get_or s (raw + j) 0
  byte_there j l = get_or-take (rounded_up size) (drop raw s) j 0 l ∙ get_or-drop raw s j 0

  pub turned_byte : (i : ℕ) → i < rounded_up size → get_or (turned there) i 0 ≡ get_or s (raw + turned_place i) 0
  turned_byte i l =
      get_or-turned ((size + 3) / 4) there i (omega arith) (omega (arith, length_there)) ∙ byte_there (turned_place i) (turned_low size i l)

  pub length_area_at : (order : ℕ) → length (area_at order s raw size) ≡ rounded_up size
  unfolding area_at
  length_area_at order = length_area_in order there ∙ length_there

  pub area_byte : (order i : ℕ) → i < rounded_up size → get_or (area_at order s raw size) i 0 ≡ get_or s (raw + place_in order i) 0
  unfolding area_at area_in turned_if place_in
  area_byte order i l = go (turns_data order)
    where
      go : (t : Bool) → get_or (cond t (turned there) there) i 0 ≡ get_or s (raw + cond t (turned_place i) i) 0
      go true = turned_byte i l
      go false = byte_there i l

  -- all that stands behind the block's bytes, up to the area's end
  pub padding_all : (order : ℕ) → zeros (drop size (area_at order s raw size)) ≡ zeros_in (area_at order s raw size) size (rounded_up size)
  unfolding zeros_in
  padding_all order =
      let a = area_at order s raw size in
      let l : length (drop size a) ≤ rounded_up size - size = omega (arith, length-drop size a, length_area_at order) in
      ap zeros (sym (take_all (rounded_up size - size) (drop size a) l))

  -- As they are copied: whole fours first, where the area stands reversed ..
  pub fours_first : (part : List ℕ) → part ≡ take (raw + size / 4 * 4 - raw) (drop raw s) → turned (take (4 * (length part / 4)) part) ≡ take (size / 4 * 4) (turned there)
  fours_first part p =
      let e : raw + size / 4 * 4 - raw ≡ size / 4 * 4 = omega arith in
      let q : part ≡ take (size / 4 * 4) (drop raw s) = p ∙ rw e in
      let l : length part ≡ size / 4 * 4 = ap length q ∙ length-take-le (size / 4 * 4) (drop raw s) (simp length-drop (omega arith)) in
      let k : 4 * (length part / 4) ≡ size / 4 * 4 = omega arith in
      let f : size / 4 * 4 ≡ 4 * (size / 4) = omega arith in
      rw (k, q, take-take (size / 4 * 4) (size / 4 * 4) (drop raw s) (omega arith), f, take-turned (size / 4) there)
      (ap turned (sym (take-take (4 * (size / 4)) (rounded_up size) (drop raw s) (omega arith))))

  pub area_turned : (order : ℕ) → turns_data order ≡ true → turned there ≡ area_at order s raw size
  unfolding area_at area_in turned_if
  area_turned order e = rw e

  -- .. and as they are where it does not
  pub bytes_as_they_are : (order : ℕ) → turns_data order ≡ false → take size (drop raw s) ≡ take size (area_at order s raw size)
  unfolding area_at area_in turned_if
  bytes_as_they_are order e = rw (e, take-take size (rounded_up size) (drop raw s) (omega arith))

-- A row written in two goes: its first w bytes, and then those from w on, one by one.
module _ (xs ys : List ℕ) (w : ℕ) where
  pub last_none : xs ≡ patch xs w (take (w - w) (drop w ys))
  unfolding patch
  last_none =
      let e : w - w ≡ 0 = omega arith in
      rw e (none (drop w ys))
    where
      none : (zs : List ℕ) → xs ≡ patch xs w (take 0 zs)
      none [] = unfold patch in refl
      none (z ∷ zs) = unfold patch in refl

  pub last_more : (i : ℕ) → w ≤ i → i < length ys → set (patch xs w (take (i - w) (drop w ys))) i (get_or ys i 0) ≡ patch xs w (take (i + 1 - w) (drop w ys))
  last_more i h l =
      let e : w + (i - w) ≡ i = omega arith in
      let f : i - w + 1 ≡ i + 1 - w = omega arith in
      let g : get_or (drop w ys) (i - w) 0 ≡ get_or ys i 0 = get_or-drop w ys (i - w) 0 ∙ rw e in
      rw (e, f, g) at (patch_more xs w (drop w ys) (i - w) (omega (arith, length-drop w ys)))

  pub last_all : (size : ℕ) → w ≤ size → w ≤ length ys → patch (patch xs 0 (take w ys)) w (take (size - w) (drop w ys)) ≡ patch xs 0 (take size ys)
  last_all size h l =
      let e : w ≡ 0 + length (take w ys) = omega (arith, length-take-le w ys l) in
      let f : size ≡ w + (size - w) = omega arith in
      patch_then xs 0 (take w ys) w (take (size - w) (drop w ys)) e ∙ ap (patch xs 0) (sym (take-add w (size - w) ys) ∙ rw (← f))
