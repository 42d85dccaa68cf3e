-- An image's numbers: what was written reads back, and what was read writes back.
use Prim.Native.Nat.{ℕ, ◌+◌, ◌^◌, ◌<◌, ◌≤◌}
use mathlib.Core.Path.{◌≡◌, refl}
use mathlib.Core.List.{List, ◌++◌}
use lib.ListN.{length, take, drop, replicate}
use Rattle.fields.specs.Number.{little, le32, Bytes}
use Rattle.fields.proofs.NumberLaws.{u32_drop, u32_le32, le32_u32, u32_below, length-le32}
use Rattle.image.specs.Layout.{image_number, number_bytes}

pub length-number : (n : ℕ) → length (number_bytes n) ≡ 4
unfolding number_bytes
length-number n = length-le32 n

pub number_zero : number_bytes 0 ≡ replicate 4 0
unfolding number_bytes le32 little
number_zero = refl

-- a number that fits its field is read where it was written ..
pub number_back : (n : ℕ) (front rest : List ℕ) (at : ℕ) → length front ≡ at → n < 2 ^ 32 → image_number (front ++ (number_bytes n ++ rest)) at ≡ n
unfolding image_number number_bytes
number_back n front rest at e h = rw (← e) (u32_le32 n front rest h)

module _ (s : List ℕ) (at : ℕ) where
  -- .. and one that is read is written back
  pub number_again : Bytes s → at + 4 ≤ length s → number_bytes (image_number s at) ≡ take 4 (drop at s)
  unfolding image_number number_bytes
  number_again b h = le32_u32 s at b h

  pub number_below : Bytes s → image_number s at < 2 ^ 32
  unfolding image_number
  number_below b = u32_below s at b

  pub number-drop : (i : ℕ) → image_number (drop at s) i ≡ image_number s (at + i)
  unfolding image_number
  number-drop i = u32_drop s at i
