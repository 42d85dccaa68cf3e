-- Rows of bytes that are equal: byte by byte, part by part, and as numbers.
use Prim.Native.Nat.{ℕ, zero, suc, ◌+◌, ◌*◌, ◌/◌, ◌%◌, ◌<◌, ◌≤◌}
use mathlib.Core.Path.{◌≡◌, refl, sym, ◌∙◌}
use mathlib.Core.Bool.{Bool, true, false, ◌&&◌, and-true, and_assoc}
use mathlib.Core.List.{List, [], ◌∷◌, ◌++◌}
use native.Mathlib.Numerals.{add-one}
use native.Mathlib.Omega.{arith}
use lib.Dec.{eqb}
use lib.ListN.{length, take, drop, get_or, length-drop}
use lib.Seq.{take-add, take-suc, take-length, drop-drop, length-take-le}
use borrow.Author.Tests.{eqb-true, eqb-false, eq-eqb, ne_eqb}
use mir.Syntax.{w32}
use Rattle.std.specs.Int.{from_le_bytes, from_be_bytes}
use Rattle.std.specs.Simd.{first_chunks}
use Rattle.fields.specs.Number.{number, field_at, Bytes}
use Rattle.fields.specs.Turning.{turned}
use Rattle.fields.proofs.NumberLaws.{bytes_field, length_field, from_le32}
use Rattle.fields.proofs.TurningLaws.{length-turned, bytes_turned, take-turned, drop-turned}
use Rattle.compare.specs.Matching.{all_below, equal_bytes}

-- of the numbers below n + 1 the lowest, and the others
all_first : (test : ℕ → Bool) (n : ℕ) → all_below test (suc n) ≡ (test 0 && all_below (λ i. test (suc i)) n)
unfolding all_below
all_first test zero = sym (and-true (test 0))
all_first test (suc n) = rw (all_first test n) (and_assoc (test 0) (all_below (λ i. test (suc i)) n) (test (suc n)))

-- nothing is equal to nothing
pub equal_none : equal_bytes [] [] ≡ true
unfolding equal_bytes all_below
equal_none = refl

-- one byte in front of either
equal_cons : (a b : ℕ) (xs ys : List ℕ) → equal_bytes (a ∷ xs) (b ∷ ys) ≡ (eqb a b && equal_bytes xs ys)
unfolding equal_bytes
equal_cons a b xs ys = all_first (λ i. eqb (get_or (a ∷ xs) i 0) (get_or (b ∷ ys) i 0)) (length xs)

-- rows put together, whose fronts are as long
pub equal_append : (xs ys xs' ys' : List ℕ) → length xs ≡ length ys → equal_bytes (xs ++ xs') (ys ++ ys') ≡ (equal_bytes xs ys && equal_bytes xs' ys')
equal_append [] [] xs' ys' h = rw equal_none
equal_append [] (b ∷ ys) xs' ys' h = absurd (omega arith)
equal_append (a ∷ xs) [] xs' ys' h = absurd (omega arith)
equal_append (a ∷ xs) (b ∷ ys) xs' ys' h =
    rw (equal_cons a b (xs ++ xs') (ys ++ ys'), equal_append xs ys xs' ys' (omega arith), equal_cons a b xs ys)
    (sym (and_assoc (eqb a b) (equal_bytes xs ys) (equal_bytes xs' ys')))

-- k more, behind the first m of two rows
pub equal_more : (m k : ℕ) (xs ys : List ℕ) → m ≤ length xs → m ≤ length ys → equal_bytes (take (m + k) xs) (take (m + k) ys) ≡ (equal_bytes (take m xs) (take m ys) && equal_bytes (take k (drop m xs)) (take k (drop m ys)))
equal_more m k xs ys h g =
    rw (take-add m k xs, take-add m k ys)
    (equal_append (take m xs) (take m ys) (take k (drop m xs)) (take k (drop m ys)) (length-take-le m xs h ∙ sym (length-take-le m ys g)))

-- one more, behind the first i of two rows
pub equal_next : (i : ℕ) (xs ys : List ℕ) → i < length xs → i < length ys → equal_bytes (take (i + 1) xs) (take (i + 1) ys) ≡ (equal_bytes (take i xs) (take i ys) && eqb (get_or xs i 0) (get_or ys i 0))
equal_next i xs ys h g =
    let l : length (take i xs) ≡ length (take i ys) = length-take-le i xs (omega arith) ∙ sym (length-take-le i ys (omega arith)) in
    rw (
      add-one,
      take-suc xs i 0 h,
      take-suc ys i 0 g,
      equal_append (take i xs) (take i ys) (get_or xs i 0 ∷ []) (get_or ys i 0 ∷ []) l,
      equal_cons (get_or xs i 0) (get_or ys i 0) [] [],
      equal_none,
      and-true,
    )

-- a lowest byte and a rest
equal_digits : (a b m n : ℕ) → a < 256 → b < 256 → eqb (a + 256 * m) (b + 256 * n) ≡ (eqb a b && eqb m n)
equal_digits a b m n h g = go (eqb a b) (eqb m n) refl refl
  where
    go : (s t : Bool) → eqb a b ≡ s → eqb m n ≡ t → eqb (a + 256 * m) (b + 256 * n) ≡ (s && t)
    go true true p q =
        let e = eqb-true a b p in
        let f = eqb-true m n q in
        eq-eqb (a + 256 * m) (b + 256 * n) (omega arith)
    go true false p q = ne_eqb (a + 256 * m) (b + 256 * n) (λ e. eqb-false m n q (omega arith))
    go false t p q = ne_eqb (a + 256 * m) (b + 256 * n) (λ e. eqb-false a b p (omega arith))

-- bytes are equal where the numbers are that they spell
pub equal_numbers : (xs ys : List ℕ) → Bytes xs → Bytes ys → length xs ≡ length ys → eqb (number xs) (number ys) ≡ equal_bytes xs ys
unfolding number
equal_numbers [] [] h g e = sym equal_none
equal_numbers [] (b ∷ ys) h g e = absurd (omega arith)
equal_numbers (a ∷ xs) [] h g e = absurd (omega arith)
equal_numbers (a ∷ xs) (b ∷ ys) h g e =
    rw (equal_digits a b (number xs) (number ys) h.0 g.0, equal_numbers xs ys h.1 g.1 (omega arith), equal_cons a b xs ys)

-- the fours of a row: how many there are, and each of them
pub fours_count : (k : ℕ) (xs : List ℕ) → length (first_chunks 4 k xs) ≡ k
fours_count zero xs = refl
fours_count (suc k) xs = omega (arith, fours_count k (drop 4 xs))

pub four_at : (k i : ℕ) (xs : List ℕ) → i < k → get_or (first_chunks 4 k xs) i [] ≡ field_at 4 xs (4 * i)
unfolding field_at
four_at zero i xs h = absurd (omega arith)
four_at (suc k) zero xs h = refl
four_at (suc k) (suc i) xs h =
    let e : 4 * suc i ≡ 4 + 4 * i = omega arith in
    let later = four_at k i (drop 4 xs) (omega arith) in
    rw e (later ∙ unfold field_at in rw (drop-drop (4 * i) 4 xs))

-- the number that four bytes spell from the highest on
pub from_be32 : (bs : List ℕ) → length bs ≡ 4 → from_be_bytes w32 bs ≡ number (turned bs)
unfolding number turned
from_be32 [] h = absurd (omega arith)
from_be32 (a ∷ []) h = absurd (omega arith)
from_be32 (a ∷ b ∷ []) h = absurd (omega arith)
from_be32 (a ∷ b ∷ c ∷ []) h = absurd (omega arith)
from_be32 (a ∷ b ∷ c ∷ d ∷ []) h = omega arith
from_be32 (a ∷ b ∷ c ∷ d ∷ e ∷ bs) h = absurd (omega arith)

-- four more, by their numbers, behind the first 4 * i of two rows of which one is reversed in each four
pub equal_four : (i : ℕ) (xs ys : List ℕ) → Bytes xs → Bytes ys → 4 * i + 4 ≤ length xs → 4 * i + 4 ≤ length ys → equal_bytes (take (4 * (i + 1)) xs) (take (4 * (i + 1)) (turned ys)) ≡ (equal_bytes (take (4 * i) xs) (take (4 * i) (turned ys)) && eqb (from_le_bytes w32 (field_at 4 xs (4 * i))) (from_be_bytes w32 (field_at 4 ys (4 * i))))
equal_four i xs ys p q h g =
    let e : 4 * (i + 1) ≡ 4 * i + 4 = omega arith in
    let rest : take 4 (drop (4 * i) (turned ys)) ≡ turned (field_at 4 ys (4 * i)) = unfold field_at in rw (drop-turned i ys) (take-turned 1 (drop (4 * i) ys)) in
    let front : take 4 (drop (4 * i) xs) ≡ field_at 4 xs (4 * i) = unfold field_at in refl in
    let x-long = length_field 4 xs (4 * i) h in
    let y-long = length_field 4 ys (4 * i) g in
    let as_long : length (field_at 4 xs (4 * i)) ≡ length (turned (field_at 4 ys (4 * i))) = x-long ∙ sym (length-turned (field_at 4 ys (4 * i)) ∙ y-long) in
    let both = equal_numbers (field_at 4 xs (4 * i)) (turned (field_at 4 ys (4 * i))) (bytes_field 4 xs (4 * i) p) (bytes_turned (field_at 4 ys (4 * i)) (bytes_field 4 ys (4 * i) q)) as_long in
    rw (e, equal_more (4 * i) 4 xs (turned ys) (omega arith) (omega (arith, length-turned ys)), rest, front, from_le32 (field_at 4 xs (4 * i)) x-long, from_be32 (field_at 4 ys (4 * i)) y-long, both)

-- a part of whole fours, that begins where a four does, or is empty
turned_part : (a m : ℕ) (s : List ℕ) → (0 < m → a % 4 ≡ 0) → turned (take (4 * m) (drop a s)) ≡ take (4 * m) (drop a (turned s))
unfolding turned
turned_part a zero s h = refl
turned_part a (suc m) s h =
    let at-four = h (omega arith) in
    let e : a ≡ 4 * (a / 4) = omega arith in
    rw (e, drop-turned (a / 4) s, take-turned (suc m) (drop (4 * (a / 4)) s))

-- a row and a part of another that is reversed in each four: up to the first four, the fours, and what is left
pub equal_thirds : (xs area : List ℕ) (from h m r : ℕ) → h + 4 * m + r ≡ length xs → from + length xs ≤ length area → (0 < m → (from + h) % 4 ≡ 0) → (equal_bytes (take h xs) (take h (drop from (turned area))) && equal_bytes (take (4 * m) (drop h xs)) (turned (take (4 * m) (drop (from + h) area))) && equal_bytes (take r (drop (h + 4 * m) xs)) (take r (drop (from + (h + 4 * m)) (turned area)))) ≡ equal_bytes xs (take (length xs) (drop from (turned area)))
equal_thirds xs area from h m r e g at-four =
    let there = drop from (turned area) in
    let long : length xs ≤ length there = rw (length-drop from (turned area), length-turned area) (omega arith) in
    let front = equal_more h (4 * m) xs there (omega arith) (omega arith) in
    let whole = equal_more (h + 4 * m) r xs there (omega arith) (omega arith) in
    rw (turned_part (from + h) m area at-four, ← (drop-drop h from (turned area)), ← (drop-drop (h + 4 * m) from (turned area)))
    (sym (rw (front, e, take-length xs) at whole))
