-- A bit that is set above all others can be read and leaves the others as they were. So the marks of the first n sections tell of each of them whether it is kept.
use Prim.Native.Nat.{ℕ, zero, suc, ◌+◌, ◌-◌, ◌*◌, ◌/◌, ◌%◌, ◌^◌, ◌<◌, ◌≤◌}
use mathlib.Core.Path.{◌≡◌, refl, ap, sym, ◌∙◌}
use mathlib.Core.Bool.{Bool, true, false}
use mathlib.Core.Logic.{⊎_elim}
use native.Mathlib.Nat.{pow-suc, one-mul, mod-eq_of_lt, add-mul-div_right, add-div_right, div-eq_of_lt, eq-or-lt_of_le, le_of_suc-le-suc}
use native.Mathlib.Numerals.{add-one}
use native.Mathlib.Omega.{arith}
use lib.Pow.{pow_pos, pow_mono, pow-lt, pow-add}
use lib.Dec.{eqb}
use lib.ListN.{length, get_or}
use Rattle.std.proofs.lemmas.List.{length-set, get_or-set_same, get_or-set_other}
use borrow.Author.Tests.{eqb-true, eqb-false}
use Rattle.coff.specs.declared.Marks.{Marks}
use Rattle.coff.specs.Marks.{word_of, is_marked, with_bit, with_mark, no_marks, marks_below}

-- One number.

even_on : (q z : ℕ) → (q + z * 2) % 2 ≡ q % 2
even_on q z = omega arith

bit_low : (x j k : ℕ) → j < k → (x + 2 ^ k) / 2 ^ j % 2 ≡ x / 2 ^ j % 2
bit_low x j k h =
    let d = k - j - 1 in
    let e : k ≡ suc d + j = omega arith in
    let p : 2 ^ k ≡ 2 ^ d * 2 * 2 ^ j = ap (λ (n : ℕ). 2 ^ n) e ∙ pow-add 2 (suc d) j ∙ ap (λ (n : ℕ). n * 2 ^ j) (pow-suc 2 d) in
    rw (p, add-mul-div_right x (2 ^ d * 2) (pow_pos j)) (even_on (x / 2 ^ j) (2 ^ d))

bit_new : (x k : ℕ) → x < 2 ^ k → (x + 2 ^ k) / 2 ^ k % 2 ≡ 1
bit_new x k h = rw (add-div_right x (pow_pos k), div-eq_of_lt h)

bit_none : (x k : ℕ) → x < 2 ^ k → x / 2 ^ k % 2 ≡ 0
bit_none x k h = rw (div-eq_of_lt h)

-- the code's bit, in a number of 64
bit_is : (k : ℕ) → k < 64 → 1 * 2 ^ k % 2 ^ 64 ≡ 2 ^ k
bit_is k h = rw one-mul (mod-eq_of_lt (pow-lt h))

pub bit_fits : (x k : ℕ) → x < 2 ^ k → k < 64 → x + 1 * 2 ^ k % 2 ^ 64 < 2 ^ 64
bit_fits x k h l =
    let up : suc k ≤ 64 = l in
    rw (bit_is k l) (omega (arith, h, pow-suc 2 k, pow_mono up))

-- The four numbers.

pub new_bit : (m : Marks) (i : ℕ) → with_bit m (i / 64) (1 * 2 ^ (i % 64) % 2 ^ 64) ≡ with_mark m i
unfolding with_mark
new_bit m i = rw (bit_is (i % 64) (omega arith))

word_none : (q : ℕ) → q < 4 → word_of no_marks q ≡ 0
unfolding word_of
word_none zero h = refl
word_none (suc zero) h = refl
word_none (suc (suc zero)) h = refl
word_none (suc (suc (suc zero))) h = refl
word_none (suc (suc (suc (suc more)))) h = absurd (omega arith)

module _ (m : Marks) (q bit : ℕ) where
  all_kept : length (with_bit m q bit).words ≡ length m.words
  unfolding with_bit
  all_kept = simp length-set

  word_same : q < length m.words → word_of (with_bit m q bit) q ≡ word_of m q + bit
  unfolding word_of with_bit
  word_same h = get_or-set_same m.words q (get_or m.words q 0 + bit) 0 h

  word_other : (r : ℕ) → (r ≡ q → ⊥) → word_of (with_bit m q bit) r ≡ word_of m r
  unfolding word_of with_bit
  word_other r n = get_or-set_other m.words q r (get_or m.words q 0 + bit) 0 n

-- All sections below n are noted, and there is room for those from n on.
pub record Noted (keep : ℕ → Bool) (n : ℕ) (m : Marks) : Type 0 where
  pub four : length m.words ≡ 4
  pub tells : (i : ℕ) → i < n → is_marked m i ≡ keep i
  pub room : (i : ℕ) → n ≤ i → i < 256 → word_of m (i / 64) < 2 ^ (i % 64)

noted_none : (keep : ℕ → Bool) → Noted keep 0 no_marks
noted_none keep =
    record {
      four = refl;
      tells = λ i h. absurd (omega arith);
      room = λ i h l. rw (word_none (i / 64) (omega arith)) (pow_pos (i % 64));
    }

module _ (keep : ℕ → Bool) (n : ℕ) (few : n < 256) (m : Marks) (s : Noted keep n m) where
  fits : word_of m (n / 64) < 2 ^ (n % 64)
  fits = s.room n (omega arith) few

  in_row : n / 64 < length m.words
  in_row = omega (arith, s.four)

  new_told : is_marked (with_mark m n) n ≡ true
  unfolding is_marked with_mark
  new_told = rw (word_same m (n / 64) (2 ^ (n % 64)) in_row, bit_new (word_of m (n / 64)) (n % 64) fits)

  old_told : (i : ℕ) → i < n → is_marked (with_mark m n) i ≡ is_marked m i
  unfolding is_marked with_mark
  old_told i h = go (eqb (i / 64) (n / 64)) refl
    where
      go : (t : Bool) → eqb (i / 64) (n / 64) ≡ t → eqb (word_of (with_bit m (n / 64) (2 ^ (n % 64))) (i / 64) / 2 ^ (i % 64) % 2) 1 ≡ eqb (word_of m (i / 64) / 2 ^ (i % 64) % 2) 1
      go true e =
          let q = eqb-true (i / 64) (n / 64) e in
          rw (q, word_same m (n / 64) (2 ^ (n % 64)) in_row, bit_low (word_of m (n / 64)) (i % 64) (n % 64) (omega arith))
      go false e =
          rw (word_other m (n / 64) (2 ^ (n % 64)) (i / 64) (eqb-false (i / 64) (n / 64) e))

  room_behind : (i : ℕ) → n + 1 ≤ i → i < 256 → word_of (with_mark m n) (i / 64) < 2 ^ (i % 64)
  unfolding with_mark
  room_behind i h l = go (eqb (i / 64) (n / 64)) refl
    where
      go : (t : Bool) → eqb (i / 64) (n / 64) ≡ t → word_of (with_bit m (n / 64) (2 ^ (n % 64))) (i / 64) < 2 ^ (i % 64)
      go true e =
          let q = eqb-true (i / 64) (n / 64) e in
          let up : suc (n % 64) ≤ i % 64 = omega arith in
          rw (q, word_same m (n / 64) (2 ^ (n % 64)) in_row) (omega (arith, fits, pow-suc 2 (n % 64), pow_mono up))
      go false e =
          rw (word_other m (n / 64) (2 ^ (n % 64)) (i / 64) (eqb-false (i / 64) (n / 64) e)) (s.room i (omega arith) l)

  noted_kept : keep n ≡ true → Noted keep (n + 1) (with_mark m n)
  noted_kept k =
      record {
        four = unfold with_mark in all_kept m (n / 64) (2 ^ (n % 64)) ∙ s.four;
        tells = λ i h. ⊎_elim (λ e. rw e (new_told ∙ sym k)) (λ l. old_told i l ∙ s.tells i l) (eq-or-lt_of_le (le_of_suc-le-suc (rw add-one at h)));
        room = room_behind;
      }

  none_told : is_marked m n ≡ false
  unfolding is_marked
  none_told = rw (bit_none (word_of m (n / 64)) (n % 64) fits)

  noted_left : keep n ≡ false → Noted keep (n + 1) m
  noted_left k =
      record {
        four = s.four;
        tells = λ i h. ⊎_elim (λ e. rw e (none_told ∙ sym k)) (λ l. s.tells i l) (eq-or-lt_of_le (le_of_suc-le-suc (rw add-one at h)));
        room = λ i h l. s.room i (omega arith) l;
      }

-- One section more.
module _ (keep : ℕ → Bool) where
  pub marks_none : marks_below keep 0 ≡ no_marks
  unfolding marks_below
  marks_none = refl

  pub marks_kept : (n : ℕ) → keep n ≡ true → marks_below keep (n + 1) ≡ with_mark (marks_below keep n) n
  unfolding marks_below
  marks_kept n k = rw (add-one, k)

  pub marks_left : (n : ℕ) → keep n ≡ false → marks_below keep (n + 1) ≡ marks_below keep n
  unfolding marks_below
  marks_left n k = rw (add-one, k)

  pub noted : (n : ℕ) → n ≤ 256 → Noted keep n (marks_below keep n)
  noted zero h = rw marks_none (noted_none keep)
  noted (suc n) h = rw add-one at (go (keep n) refl (noted n (omega arith)))
    where
      go : (t : Bool) → keep n ≡ t → Noted keep n (marks_below keep n) → Noted keep (n + 1) (marks_below keep (n + 1))
      go true k s = rw (marks_kept n k) (noted_kept keep n (omega arith) (marks_below keep n) s k)
      go false k s = rw (marks_left n k) (noted_left keep n (omega arith) (marks_below keep n) s k)
