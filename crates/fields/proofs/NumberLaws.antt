-- Numbers in bytes: what was written reads back, and what was read writes back, at every width.
use Prim.Native.Nat.{ℕ, zero, suc, ◌+◌, ◌*◌, ◌-◌, ◌/◌, ◌%◌, ◌^◌, ◌<◌, ◌≤◌}
use mathlib.Core.Path.{◌≡◌, refl, ap, ◌∙◌}
use mathlib.Core.List.{List, [], ◌∷◌, ◌++◌}
use native.Mathlib.Nat.{add-zero, pow-succ', add-mul-mod_self_left, mod-eq_of_lt, div-div-eq-div-mul}
use native.Mathlib.Numerals.{add-one}
use native.Mathlib.Omega.{arith}
use lib.ListN.{length, take, drop, get_or, replicate, length-drop, drop_of_length-le}
use lib.Seq.{drop-drop, drop-append-add, take_at, take_all, drop-cons, length-take-le}
use mir.Syntax.{w8, w16, w32}
use Rattle.std.specs.Int.{from_le_bytes, to_le_bytes}
use mir.Val.{Fits}
use Rattle.fields.specs.Number.{number, little, field_at, u16_at, u32_at, le16, le32, Bytes}

-- The two directions.

pub length-little : (w n : ℕ) → length (little w n) ≡ w
unfolding little
length-little zero n = refl
length-little (suc w) n = ap suc (length-little w (n / 256))

pub number-little : (w n : ℕ) → n < 256 ^ w → number (little w n) ≡ n
unfolding number little
number-little zero n h = omega arith
number-little (suc w) n h =
    let k : n < 256 * 256 ^ w = rw (pow-succ' 256 w) at h in
    let q : n / 256 < 256 ^ w = omega arith in
    rw (number-little w (n / 256) q) (omega arith)

pub little-number : (bs : List ℕ) → Bytes bs → little (length bs) (number bs) ≡ bs
unfolding number little
little-number [] h = refl
little-number (b ∷ bs) h =
    let r : (b + 256 * number bs) % 256 ≡ b = add-mul-mod_self_left b 256 (number bs) ∙ mod-eq_of_lt h.0 in
    let q : (b + 256 * number bs) / 256 ≡ number bs = omega (arith, h.0) in
    rw (r, q, little-number bs h.1)

-- also where the bytes end before the field does
pub number_below : (w : ℕ) (bs : List ℕ) → Bytes bs → number (take w bs) < 256 ^ w
unfolding number
number_below zero [] h = omega arith
number_below zero (b ∷ bs) h = omega arith
number_below (suc w) [] h = rw (pow-succ' 256 w) (omega (arith, number_below w [] tt))
number_below (suc w) (b ∷ bs) h = rw (pow-succ' 256 w) (omega (arith, h.0, number_below w bs h.1))

pub number_within : (w : ℕ) (bs : List ℕ) → Bytes bs → length bs ≤ w → number bs < 256 ^ w
number_within w bs h l = rw (take_all w bs l) at (number_below w bs h)

-- in a wider field zero bytes follow them
zero_little : (w : ℕ) → little w 0 ≡ replicate w 0
unfolding little
zero_little zero = refl
zero_little (suc w) = ap (λ (l : List ℕ). 0 ∷ l) (zero_little w)

pub little_wider : (w : ℕ) (bs : List ℕ) → Bytes bs → length bs ≤ w → little w (number bs) ≡ bs ++ replicate (w - length bs) 0
unfolding number little
little_wider w [] h l = let e : w - 0 ≡ w = omega arith in rw e (zero_little w)
little_wider zero (b ∷ bs) h l = absurd (omega arith)
little_wider (suc w) (b ∷ bs) h l =
    let r : (b + 256 * number bs) % 256 ≡ b = add-mul-mod_self_left b 256 (number bs) ∙ mod-eq_of_lt h.0 in
    let q : (b + 256 * number bs) / 256 ≡ number bs = omega (arith, h.0) in
    let e : suc w - suc (length bs) ≡ w - length bs = omega arith in
    rw (r, q, e, little_wider w bs h.1 (omega arith))

-- A field at a place.

pub field_drop : (w : ℕ) (s : List ℕ) (at i : ℕ) → field_at w (drop at s) i ≡ field_at w s (at + i)
unfolding field_at
field_drop w s at i = rw drop-drop

-- a field behind a front part
pub field_behind : (w : ℕ) (s t : List ℕ) (at : ℕ) → field_at w (s ++ t) (length s + at) ≡ field_at w t at
unfolding field_at
field_behind w s t at = rw drop-append-add

-- what was written as a field is the field that stands there
pub field_written : (w n : ℕ) (rest : List ℕ) → field_at w (little w n ++ rest) 0 ≡ little w n
unfolding field_at
field_written w n rest = take_at (little w n) rest w (length-little w n)

pub length_field : (w : ℕ) (s : List ℕ) (at : ℕ) → at + w ≤ length s → length (field_at w s at) ≡ w
unfolding field_at
length_field w s at h =
    let k : w ≤ length (drop at s) = simp length-drop (omega arith) in
    length-take-le w (drop at s) k

-- what a lent slice is known to hold
pub bytes_of : (s : List ℕ) → ((i : ℕ) → Fits w8 (get_or s i 0)) → Bytes s
bytes_of [] h = tt
bytes_of (b ∷ s) h = ((h 0).fits, bytes_of s (λ i. h (suc i)))

pub bytes_take : (n : ℕ) (s : List ℕ) → Bytes s → Bytes (take n s)
bytes_take zero [] h = tt
bytes_take zero (b ∷ s) h = tt
bytes_take (suc n) [] h = tt
bytes_take (suc n) (b ∷ s) h = (h.0, bytes_take n s h.1)

pub bytes_drop : (n : ℕ) (s : List ℕ) → Bytes s → Bytes (drop n s)
bytes_drop zero [] h = tt
bytes_drop zero (b ∷ s) h = h
bytes_drop (suc n) [] h = tt
bytes_drop (suc n) (b ∷ s) h = bytes_drop n s h.1

pub bytes_field : (w : ℕ) (s : List ℕ) (at : ℕ) → Bytes s → Bytes (field_at w s at)
unfolding field_at
bytes_field w s at h = bytes_take w (drop at s) (bytes_drop at s h)

-- The law of both widths: a number that fits its field is read where it was written ..
pub read_written : (w n : ℕ) (front rest : List ℕ) → n < 256 ^ w → number (field_at w (front ++ (little w n ++ rest)) (length front)) ≡ n
read_written w n front rest h =
    rw (← (add-zero (length front)), field_behind w front (little w n ++ rest) 0, field_written w n rest) (number-little w n h)

-- .. and a field that is read is written back.
pub written_read : (w : ℕ) (s : List ℕ) (at : ℕ) → Bytes s → at + w ≤ length s → little w (number (field_at w s at)) ≡ field_at w s at
written_read w s at b h =
    rw (length_field w s at h) at (little-number (field_at w s at) (bytes_field w s at b))

-- At 32 bits, by name.

pub u32_drop : (s : List ℕ) (at i : ℕ) → u32_at (drop at s) i ≡ u32_at s (at + i)
unfolding u32_at
u32_drop s at i = rw field_drop

pub u32_le32 : (n : ℕ) (front rest : List ℕ) → n < 2 ^ 32 → u32_at (front ++ (le32 n ++ rest)) (length front) ≡ n
unfolding u32_at le32
u32_le32 n front rest h = read_written 4 n front rest h

pub le32_u32 : (s : List ℕ) (at : ℕ) → Bytes s → at + 4 ≤ length s → le32 (u32_at s at) ≡ take 4 (drop at s)
unfolding u32_at le32 field_at
le32_u32 s at b h = unfold field_at in written_read 4 s at b h

pub u32_below : (s : List ℕ) (at : ℕ) → Bytes s → u32_at s at < 2 ^ 32
unfolding u32_at field_at
u32_below s at b = number_below 4 (drop at s) (bytes_drop at s b)

pub length-le16 : (n : ℕ) → length (le16 n) ≡ 2
unfolding le16
length-le16 n = length-little 2 n

pub length-le32 : (n : ℕ) → length (le32 n) ≡ 4
unfolding le32
length-le32 n = length-little 4 n

-- The bytes one by one, as code reads and writes them.

field_step : (w : ℕ) (s : List ℕ) (at : ℕ) → at < length s → number (field_at (suc w) s at) ≡ get_or s at 0 + 256 * number (field_at w s (at + 1))
unfolding field_at number
field_step w s at h = rw (add-one, drop-cons s at 0 h)

-- the same of all bytes from a place on; past the last there are none
pub number_step : (s : List ℕ) (at : ℕ) → at < length s → number (drop at s) ≡ get_or s at 0 + 256 * number (drop (at + 1) s)
unfolding number
number_step s at h = rw (add-one, drop-cons s at 0 h)

pub number_end : (s : List ℕ) → number (drop (length s) s) ≡ 0
unfolding number
number_end s = rw (drop_of_length-le s {i = length s} (omega arith))

field_none : (s : List ℕ) (at : ℕ) → number (field_at 0 s at) ≡ 0
unfolding field_at number
field_none s at = refl

pub u16_bytes : (s : List ℕ) (at : ℕ) → at + 2 ≤ length s → get_or s at 0 + 256 * get_or s (at + 1) 0 ≡ u16_at s at
unfolding u16_at
u16_bytes s at h =
    omega (arith, field_step 1 s at (omega arith), field_step 0 s (at + 1) (omega arith), field_none s (at + 1 + 1))

pub u32_bytes : (s : List ℕ) (at : ℕ) → at + 4 ≤ length s → get_or s at 0 + 256 * get_or s (at + 1) 0 + 65536 * get_or s (at + 2) 0 + 16777216 * get_or s (at + 3) 0 ≡ u32_at s at
unfolding u32_at
u32_bytes s at h =
    let e₂ : at + 1 + 1 ≡ at + 2 = omega arith in
    let e₃ : at + 2 + 1 ≡ at + 3 = omega arith in
    omega (
      arith,
      field_step 3 s at (omega arith),
      rw e₂ at (field_step 2 s (at + 1) (omega arith)),
      rw e₃ at (field_step 1 s (at + 2) (omega arith)),
      field_step 0 s (at + 3) (omega arith),
      field_none s (at + 3 + 1),
    )

pub le32_bytes : (n : ℕ) → le32 n ≡ n % 256 ∷ n / 256 % 256 ∷ n / 65536 % 256 ∷ n / 16777216 % 256 ∷ []
unfolding le32 little
le32_bytes n = rw (div-div-eq-div-mul n 256 256, div-div-eq-div-mul n 65536 256)

-- the library's words for a number and its bytes
pub from_le32 : (bs : List ℕ) → length bs ≡ 4 → from_le_bytes w32 bs ≡ number bs
unfolding number
from_le32 [] h = absurd (omega arith)
from_le32 (a ∷ []) h = absurd (omega arith)
from_le32 (a ∷ b ∷ []) h = absurd (omega arith)
from_le32 (a ∷ b ∷ c ∷ []) h = absurd (omega arith)
from_le32 (a ∷ b ∷ c ∷ d ∷ []) h = omega arith
from_le32 (a ∷ b ∷ c ∷ d ∷ e ∷ bs) h = absurd (omega arith)

pub to_le16 : (n : ℕ) → to_le_bytes w16 n ≡ le16 n
unfolding le16 little
to_le16 n = refl

pub to_le32 : (n : ℕ) → to_le_bytes w32 n ≡ le32 n
to_le32 n = rw le32_bytes
