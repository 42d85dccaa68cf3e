-- What the digits mean: read back, they are the number. With `length_decimal` there is no shorter row of digits that is.
use Prim.Native.Nat.{ℕ, zero, suc, ◌+◌, ◌*◌, ◌-◌, ◌/◌, ◌%◌, ◌^◌, ◌<◌}
use mathlib.Core.Path.{◌≡◌, refl}
use mathlib.Core.Bool.{cond}
use mathlib.Core.Logic.{⊎_elim}
use mathlib.Core.List.{List, [], ◌∷◌, ◌++◌}
use native.Mathlib.Nat.{pow-succ', eq-zero-or-pos}
use native.Mathlib.Omega.{arith}
use borrow.Author.Tests.{lt-ltb, le-ltb}
use lib.Dec.{ltb}
use Rattle.lines.specs.Text.{digit, last_digits, hex8, decimal_in, decimal}

-- the number of a digit's byte
abbrev pub value_of : ℕ → ℕ
value_of byte = cond (ltb byte 65) (byte - 48) (byte - 55)

-- the number that a row of digits spells behind digits that spell n
abbrev pub spelt : ℕ → ℕ → List ℕ → ℕ
spelt base n [] = n
spelt base n (b ∷ bs) = spelt base (n * base + value_of b) bs

spelt_more : (base n : ℕ) (bs : List ℕ) (b : ℕ) → spelt base n (bs ++ (b ∷ [])) ≡ spelt base n bs * base + value_of b
spelt_more base n [] b = refl
spelt_more base n (c ∷ bs) b = spelt_more base (n * base + value_of c) bs b

digit_read : (d : ℕ) → d < 16 → value_of (digit d) ≡ d
unfolding digit
digit_read d h =
    ⊎_elim
    (λ l. rw (lt-ltb d 10 (omega arith)) (rw (lt-ltb (48 + d) 65 (omega arith)) (omega arith)))
    (λ l. rw (le-ltb d 10 (omega arith)) (rw (le-ltb (65 + (d - 10)) 65 (omega arith)) (omega arith)))
    (eq-zero-or-pos (d / 10))

decimal_in_read : (t n : ℕ) → n < t → spelt 10 0 (decimal_in t n) ≡ n
unfolding decimal_in
decimal_in_read zero n h = absurd (omega arith)
decimal_in_read (suc t) n h =
    ⊎_elim
    (λ l. rw (lt-ltb n 10 (omega arith), decimal_in) (omega (arith, digit_read n (omega arith))))
    (λ l. rw (le-ltb n 10 (omega arith), decimal_in, spelt_more, decimal_in_read t (n / 10) (omega arith)) (omega (arith, digit_read (n % 10) (omega arith))))
    (eq-zero-or-pos (n / 10))

pub decimal_read : (n : ℕ) → spelt 10 0 (decimal n) ≡ n
unfolding decimal
decimal_read n = decimal_in_read (suc n) n (omega arith)

last_read : (k n : ℕ) → n < 16 ^ k → spelt 16 0 (last_digits k n) ≡ n
unfolding last_digits
last_read zero n h = omega arith
last_read (suc k) n h =
    let l : n < 16 * 16 ^ k = rw (pow-succ' 16 k) at h in
    rw (spelt_more, last_read k (n / 16) (omega arith)) (omega (arith, digit_read (n % 16) (omega arith)))

pub hex_read : (n : ℕ) → n < 2 ^ 32 → spelt 16 0 (hex8 n) ≡ n
unfolding hex8
hex_read n h = last_read 8 n h
