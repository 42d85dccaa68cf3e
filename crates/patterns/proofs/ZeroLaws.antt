-- Bytes up to the first zero byte: from any place on, as the front that they are, and as a test.
use Prim.Native.Nat.{ℕ, suc, ◌+◌, ◌≤◌}
use mathlib.Core.Path.{◌≡◌, refl, sym, ap, ◌∙◌}
use mathlib.Core.Bool.{Bool, true, false, not, cond, ◌||◌}
use mathlib.Core.List.{List, [], ◌∷◌}
use native.Mathlib.Omega.{arith}
use lib.Dec.{eqb, ltb, leb-suc-suc}
use lib.ListN.{length, take}
use borrow.Author.Tests.{lt-ltb}
use Rattle.std.specs.List.{prefix_len}
use Rattle.patterns.specs.Zero.{up_to_zero, has_zero}

-- they are as many as stand before the first zero
pub zero_first : (s : List ℕ) → length (up_to_zero s) ≡ prefix_len (λ b. not (eqb b 0)) s
unfolding up_to_zero
zero_first [] = refl
zero_first (b ∷ bs) = go (eqb b 0) (zero_first bs)
  where
    go : (t : Bool) → length (up_to_zero bs) ≡ prefix_len (λ b. not (eqb b 0)) bs → length (cond t [] (b ∷ up_to_zero bs)) ≡ cond (not t) (1 + prefix_len (λ b. not (eqb b 0)) bs) 0
    go true e = refl
    go false e = omega arith

-- the bytes up to a zero are as many of the first
pub take_up_to_zero : (s : List ℕ) → take (length (up_to_zero s)) s ≡ up_to_zero s
unfolding up_to_zero
take_up_to_zero [] = refl
take_up_to_zero (b ∷ bs) = go (eqb b 0) (take_up_to_zero bs)
  where
    go : (t : Bool) → take (length (up_to_zero bs)) bs ≡ up_to_zero bs → take (length (cond t [] (b ∷ up_to_zero bs))) (b ∷ bs) ≡ cond t [] (b ∷ up_to_zero bs)
    go true e = refl
    go false e = ap (λ (l : List ℕ). b ∷ l) e

-- there is a zero byte where they are not all
pub has_zero_lem : (s : List ℕ) → has_zero s ≡ ltb (length (up_to_zero s)) (length s)
unfolding has_zero up_to_zero
has_zero_lem [] = refl
has_zero_lem (b ∷ bs) = go (eqb b 0) (has_zero_lem bs)
  where
    go : (t : Bool) → has_zero bs ≡ ltb (length (up_to_zero bs)) (length bs) → t || has_zero bs ≡ ltb (length (cond t [] (b ∷ up_to_zero bs))) (suc (length bs))
    go true e = sym (lt-ltb 0 (suc (length bs)) (omega arith))
    go false e = e ∙ sym (leb-suc-suc (suc (length (up_to_zero bs))) (length bs))

pub up_to_zero_short : (s : List ℕ) → length (up_to_zero s) ≤ length s
unfolding up_to_zero
up_to_zero_short [] = omega arith
up_to_zero_short (b ∷ bs) = go (eqb b 0) (up_to_zero_short bs)
  where
    go : (t : Bool) → length (up_to_zero bs) ≤ length bs → length (cond t [] (b ∷ up_to_zero bs)) ≤ suc (length bs)
    go true h = omega arith
    go false h = omega arith
