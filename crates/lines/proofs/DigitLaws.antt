-- The digits as a table; numbers as digits: one digit more at a time, and how many there are.
use Prim.Native.Nat.{ℕ, zero, suc, ◌+◌, ◌*◌, ◌/◌, ◌%◌, ◌^◌, ◌<◌, ◌≤◌}
use mathlib.Core.Path.{◌≡◌, refl, ◌∙◌}
use mathlib.Core.Logic.{⊎_elim}
use mathlib.Core.List.{List, [], ◌∷◌, ◌++◌}
use native.Mathlib.Nat.{add-zero, zero-add, suc-add, add-suc, div-div-eq-div-mul, pow-succ', one-le-pow, eq-zero-or-pos}
use Rattle.std.proofs.lemmas.Nat.{pow-add}
use native.Mathlib.Numerals.{add-one}
use native.Mathlib.Omega.{arith}
use borrow.Author.Tests.{lt-ltb, le-ltb}
use lib.ListN.{length, get_or, length-append}
use Rattle.lines.specs.Text.{ascii, digit, last_digits, hex8, decimal_in, decimal}

-- digits that follow each other, as many as are asked for
unfoldable digits_from : ℕ → ℕ → List ℕ
digits_from d zero = []
digits_from d (suc more) = digit d ∷ digits_from (suc d) more

get_or_digits : (d n i : ℕ) → i < n → get_or (digits_from d n) i 0 ≡ digit (d + i)
unfolding digits_from
get_or_digits d zero i h = absurd (omega arith)
get_or_digits d (suc n) zero h = rw (add-zero d)
get_or_digits d (suc n) (suc i) h = get_or_digits (suc d) n i (omega arith) ∙ rw (suc-add d i, add-suc d i)

pub digit_at : (d : ℕ) → d < 16 → get_or (ascii "0123456789ABCDEF") d 0 ≡ digit d
unfolding digits_from digit
digit_at d h = rw (zero-add d) at (get_or_digits 0 16 d h)

pub digit_below : (d : ℕ) → d < 10 → 48 + d ≡ digit d
unfolding digit
digit_below d h = rw (lt-ltb d 10 h)

-- more turns than the number need not be told apart
decimal_turns : (t u n : ℕ) → n < t → n < u → decimal_in t n ≡ decimal_in u n
unfolding decimal_in
decimal_turns zero u n h k = absurd (omega arith)
decimal_turns (suc t) zero n h k = absurd (omega arith)
decimal_turns (suc t) (suc u) n h k =
    ⊎_elim
    (λ l. rw (lt-ltb n 10 (omega arith), decimal_in))
    (λ l. rw (le-ltb n 10 (omega arith), decimal_in, decimal_turns t u (n / 10) (omega arith) (omega arith)))
    (eq-zero-or-pos (n / 10))

pub decimal_one : (n : ℕ) → n < 10 → decimal n ≡ digit n ∷ []
unfolding decimal decimal_in
decimal_one n h = rw (lt-ltb n 10 h, decimal, decimal_in)

pub decimal_more : (n : ℕ) → 10 ≤ n → decimal n ≡ decimal (n / 10) ++ (digit (n % 10) ∷ [])
unfolding decimal decimal_in
decimal_more n h = rw (le-ltb n 10 h, decimal, decimal_in, decimal_turns n (suc (n / 10)) (n / 10) (omega arith) (omega arith))

pub length_decimal_one : (n : ℕ) → n < 10 → length (decimal n) ≡ 1
length_decimal_one n h = rw (decimal_one n h)

pub length_decimal_more : (n : ℕ) → 10 ≤ n → length (decimal n) ≡ length (decimal (n / 10)) + 1
length_decimal_more n h = rw (decimal_more n h, length-append)

pub length_decimal : (k n : ℕ) → n < 10 ^ (suc k) → length (decimal n) ≤ suc k
length_decimal zero n h = omega (arith, length_decimal_one n (omega arith))
length_decimal (suc k) n h =
    ⊎_elim
    (λ l. omega (arith, length_decimal_one n (omega arith)))
    (λ l.
    let m : n < 10 * 10 ^ (suc k) = rw (pow-succ' 10 (suc k)) at h in
    omega (arith, length_decimal_more n (omega arith), length_decimal k (n / 10) (omega arith)))
    (eq-zero-or-pos (n / 10))

length_decimal_least : (k n : ℕ) → 10 ^ k ≤ n → suc k ≤ length (decimal n)
length_decimal_least zero n h =
    ⊎_elim
    (λ l. omega (arith, length_decimal_one n (omega arith)))
    (λ l. omega (arith, length_decimal_more n (omega arith)))
    (eq-zero-or-pos (n / 10))
length_decimal_least (suc k) n h =
    let m : 10 * 10 ^ k ≤ n = rw (pow-succ' 10 k) at h in
    let p : 1 ≤ 10 ^ k = one-le-pow k 10 (omega arith) in
    omega (arith, length_decimal_more n (omega arith), length_decimal_least k (n / 10) (omega arith))

-- between two powers of ten
pub length_decimal_is : (k n : ℕ) → 10 ^ k ≤ n → n < 10 * 10 ^ k → length (decimal n) ≡ k + 1
length_decimal_is k n h g =
    let m : n < 10 ^ (suc k) = rw (pow-succ' 10 k) g in
    omega (arith, length_decimal k n m, length_decimal_least k n h)

pub length_last : (k n : ℕ) → length (last_digits k n) ≡ k
unfolding last_digits
length_last zero n = refl
length_last (suc k) n = rw (length-append, length_last k (n / 16)) (omega arith)

pub length_hex : (n : ℕ) → length (hex8 n) ≡ 8
unfolding hex8
length_hex n = length_last 8 n

-- the first digits of eight, and one more: those that follow are below `shift` bits
pub hex_more : (n i shift : ℕ) → last_digits (i + 1) (n / 2 ^ shift) ≡ last_digits i (n / 2 ^ (shift + 4)) ++ (digit (n / 2 ^ shift % 16) ∷ [])
unfolding last_digits
hex_more n i shift = rw (add-one, last_digits, pow-add 2 shift 4, ← (div-div-eq-div-mul n (2 ^ shift) 16))
