-- The data area of a block, as written and as read: its length, and the bytes and the padding that are cut of it.
use Prim.Native.Nat.{ℕ, zero, suc, ◌+◌, ◌*◌, ◌-◌, ◌/◌, ◌%◌, ◌<◌, ◌≤◌}
use mathlib.Core.Path.{◌≡◌, refl, ap, ◌∙◌}
use mathlib.Core.List.{List, ◌∷◌, ◌++◌, append-nil, append_assoc}
use native.Mathlib.Nat.{suc-add, zero-add}
use native.Mathlib.Omega.{arith}
use lib.ListN.{length, take, drop, replicate, length-append, length-drop, length-replicate, take-append-drop}
use lib.Seq.{drop-drop, take-take, take_all, take_at, drop_at, length-take-le}
use Rattle.fields.specs.Number.{number, le32, Bytes}
use Rattle.fields.specs.Patch.{patch}
use Rattle.fields.specs.Turning.{turned}
use Rattle.fields.proofs.NumberLaws.{little_wider, bytes_drop}
use Rattle.fields.proofs.PieceLaws.{drop-take}
use Rattle.fields.proofs.PatchLaws.{patch_rest, patch_then}
use Rattle.fields.proofs.TurningLaws.{length-turned, turned-append}
use Rattle.fields.proofs.TurnedNumberLaws.{le32-turned}
use Rattle.image.specs.Layout.{number_bytes, pad_of, rounded_up, span_of, area_of}
use Rattle.image.specs.Reading.{size_here, area_here, bytes_here, padding_here, after_block}
use Rattle.image.proofs.NumberLaws.{number_zero}

-- a size rounded up is the size and its padding
pub rounded_is : (size : ℕ) → rounded_up size ≡ size + pad_of size
unfolding pad_of
rounded_is size = omega arith

zero_row : (m n : ℕ) → replicate {A = ℕ} (m + n) 0 ≡ replicate m 0 ++ replicate n 0
zero_row zero n = rw zero-add
zero_row (suc m) n = rw suc-add (ap (λ (l : List ℕ). 0 ∷ l) (zero_row m n))

-- the number 0 ends in as many zero bytes as one likes, up to four
zero_bytes : (n : ℕ) → n ≤ 4 → le32 0 ≡ replicate (4 - n) 0 ++ replicate n 0
unfolding number_bytes
zero_bytes n h = let e : 4 ≡ 4 - n + n = omega arith in number_zero ∙ ap (λ (k : ℕ). replicate k 0) e ∙ zero_row (4 - n) n

-- As written.
module _ (bytes : List ℕ) where
  pub length_area : length (area_of bytes) ≡ rounded_up (length bytes)
  unfolding area_of
  length_area = simp (length-append, length-replicate) (omega (arith, rounded_is (length bytes)))

  pub area_bytes : take (length bytes) (area_of bytes) ≡ bytes
  unfolding area_of
  area_bytes = take_at bytes (replicate (pad_of (length bytes)) 0) (length bytes) refl

  pub area_padding : drop (length bytes) (area_of bytes) ≡ replicate (pad_of (length bytes)) 0
  unfolding area_of
  area_padding = drop_at bytes (replicate (pad_of (length bytes)) 0) (length bytes) refl

  -- of no bytes it is empty
  pub area_none : length bytes ≡ 0 → area_of bytes ≡ bytes
  unfolding area_of
  area_none h = let p : pad_of (length bytes) ≡ 0 = unfold pad_of in omega arith in rw p (append-nil bytes)

  -- otherwise four zero bytes at its end, written first, leave the padding behind the bytes
  pub area_written : (xs : List ℕ) (at end : ℕ) → end ≡ at + rounded_up (length bytes) → 0 < length bytes → patch (patch xs (end - 4) (le32 0)) at bytes ≡ patch xs at (area_of bytes)
  unfolding area_of
  area_written xs at end e n =
      let pad = pad_of (length bytes) in
      let few : pad ≤ 4 = unfold pad_of in omega arith in
      let l : length (replicate {A = ℕ} (4 - pad) 0) ≡ 4 - pad = length-replicate (4 - pad) 0 in
      rw (zero_bytes pad few) (patch_rest xs at bytes (end - 4) (replicate (4 - pad) 0) (replicate pad 0) (omega arith) (omega (arith, rounded_is (length bytes))))

-- As written with each four reversed: the whole fours of the bytes, and what is left of them, a number whose upper bytes are the padding.
module _ (bytes : List ℕ) where
  abbrev fours : ℕ
  fours = 4 * (length bytes / 4)

  abbrev tail : List ℕ
  tail = drop fours bytes ++ replicate (pad_of (length bytes)) 0

  tail_spelled : Bytes bytes → fours < length bytes → le32 (number (drop fours bytes)) ≡ tail
  unfolding le32 pad_of
  tail_spelled b h =
      let l = length-drop fours bytes in
      let e : 4 - length (drop fours bytes) ≡ (4 - length bytes % 4) % 4 = omega arith in
      rw (← e) (little_wider 4 (drop fours bytes) (bytes_drop fours bytes b) (omega arith))

  area_in_fours : turned (area_of bytes) ≡ turned (take fours bytes) ++ turned tail
  unfolding area_of
  area_in_fours =
      let e : take fours bytes ++ tail ≡ bytes ++ replicate (pad_of (length bytes)) 0 = rw (← (append_assoc (take fours bytes) (drop fours bytes) (replicate (pad_of (length bytes)) 0)), take-append-drop fours bytes) in
      rw (← e) (turned-append (length bytes / 4) (take fours bytes) tail (length-take-le fours bytes (omega arith)))

  -- nothing is left
  pub area_exact : length bytes ≤ fours → turned (take fours bytes) ≡ turned (area_of bytes)
  unfolding area_of pad_of
  area_exact h =
      let p : (4 - length bytes % 4) % 4 ≡ 0 = omega arith in
      rw (take_all fours bytes h, p, append-nil)

  pub area_reversed : Bytes bytes → (xs : List ℕ) (at end : ℕ) → end ≡ at + rounded_up (length bytes) → fours < length bytes →
      patch (patch xs at (turned (take fours bytes))) (end - 4) (le32 (number (turned (le32 (number (drop fours bytes)))))) ≡ patch xs at (turned (area_of bytes))
  area_reversed b xs at end e h =
      let l = length-take-le fours bytes (omega arith) in
      rw (le32-turned, tail_spelled b h, area_in_fours)
      (patch_then xs at (turned (take fours bytes)) (end - 4) (turned tail) (omega (arith, length-turned (take fours bytes))))

-- As read. `rest` is what stands from the block on.
module _ (rest : List ℕ) where
  -- the bytes begin behind the three fields, and the padding behind the bytes
  pub bytes_are : bytes_here rest ≡ take (size_here rest) (drop 12 rest)
  unfolding bytes_here area_here
  bytes_are = take-take (size_here rest) (rounded_up (size_here rest)) (drop 12 rest) (omega (arith, rounded_is (size_here rest)))

  pub padding_is : padding_here rest ≡ take (pad_of (size_here rest)) (drop (12 + size_here rest) rest)
  unfolding padding_here area_here
  padding_is = rw (rounded_is (size_here rest), drop-take, drop-drop)

  -- together they are the area, and what follows the block follows it
  pub area_split : bytes_here rest ++ padding_here rest ≡ area_here rest
  unfolding bytes_here padding_here
  area_split = take-append-drop (size_here rest) (area_here rest)

  pub area_then : area_here rest ++ after_block rest ≡ drop 12 rest
  unfolding area_here after_block span_of
  area_then = rw (← (drop-drop (rounded_up (size_here rest)) 12 rest)) (take-append-drop (rounded_up (size_here rest)) (drop 12 rest))

  -- where the block is whole, its bytes are as many as its size says
  pub length_bytes : span_of (size_here rest) ≤ length rest → length (bytes_here rest) ≡ size_here rest
  unfolding span_of
  length_bytes h =
      let k : size_here rest ≤ length (drop 12 rest) = simp length-drop (omega (arith, rounded_is (size_here rest))) in
      rw bytes_are (length-take-le (size_here rest) (drop 12 rest) k)

  pub length_padding : span_of (size_here rest) ≤ length rest → length (padding_here rest) ≡ pad_of (size_here rest)
  unfolding span_of
  length_padding h =
      let k : pad_of (size_here rest) ≤ length (drop (12 + size_here rest) rest) = simp length-drop (omega (arith, rounded_is (size_here rest))) in
      rw padding_is (length-take-le (pad_of (size_here rest)) (drop (12 + size_here rest) rest) k)
