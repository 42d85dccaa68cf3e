-- One of a few ranges meets an earlier one where it meets an earlier one of these few, or one that comes before them all.
use Prim.Native.Nat.{ℕ, ◌+◌, ◌-◌, ◌<◌, ◌≤◌}
use mathlib.Core.Path.{◌≡◌, refl, sym, ◌∙◌}
use mathlib.Core.Bool.{Bool, true, false, ◌||◌, true≢false}
use mathlib.Core.Logic.{inl, inr, ⊎_elim}
use native.Mathlib.Nat.{add-zero}
use native.Mathlib.Omega.{arith}
use lib.Dec.{ltb}
use borrow.Author.Tests.{ltb-true}
use Rattle.fields.specs.Counting.{any_below}
use Rattle.fields.proofs.CountingLaws.{any_none, any_more, any_one, any_below_lem, none_passes, none_further}
use Rattle.fields.proofs.TestLaws.{one_passes, le_or_lt}
use Rattle.ranges.specs.Search.{meets_earlier, meets_among, meets_together, meets_one, NoneMeets}
use Rattle.ranges.proofs.HeldLaws.{share_swap, apart_share}

by_contrary : (a b : Bool) → (b ≡ false → a ≡ false) → a ≡ true → b ≡ true
by_contrary a true h e = refl
by_contrary a false h e = absurd (true≢false (sym e ∙ h refl))

module _ (load size : ℕ → ℕ) (p n : ℕ) where
  -- none of them meets an earlier one where none meets one of these, and none before them meets one of these ..
  none_among : meets_together load size p n ≡ false → any_below (meets_one load size p n) p ≡ false → meets_among load size p n ≡ false
  unfolding meets_together meets_one meets_among meets_earlier
  none_among e d =
      none_passes _ n
      (λ q l.
      none_passes _ (p + q)
      (λ i m.
      ⊎_elim
      (λ h.
      let k : i ≡ p + (i - p) = omega arith in
      rw k (any_below_lem _ q (i - p) (omega arith) (any_below_lem _ n q l e)))
      (λ h. share_swap (load i) (size i) (load (p + q)) (size (p + q)) ∙ any_below_lem _ n q l (any_below_lem _ p i h d))
      (le_or_lt p i)))

  -- .. and only there
  among_none : meets_among load size p n ≡ false → (meets_together load size p n ≡ false) × (any_below (meets_one load size p n) p ≡ false)
  unfolding meets_together meets_one meets_among meets_earlier
  among_none e = (
    none_passes _ n (λ q l. none_passes _ q (λ k m. any_below_lem _ (p + q) (p + k) (omega arith) (any_below_lem _ n q l e))),
    none_passes _ p (λ i m. none_passes _ n (λ k l. share_swap (load (p + k)) (size (p + k)) (load i) (size i) ∙ any_below_lem _ (p + k) i (omega arith) (any_below_lem _ n k l e))),
  )

  pub together_among : meets_together load size p n ≡ true → meets_among load size p n ≡ true
  together_among = by_contrary _ _ (λ q. (among_none q).0)

  earlier_among : any_below (meets_one load size p n) p ≡ true → meets_among load size p n ≡ true
  earlier_among = by_contrary _ _ (λ q. (among_none q).1)

  -- where none of them meets another of them, it is what the walk over those before them finds
  pub among_is : meets_together load size p n ≡ false → meets_among load size p n ≡ any_below (meets_one load size p n) p
  among_is e = go (any_below (meets_one load size p n) p) refl
    where
      go : (t : Bool) → any_below (meets_one load size p n) p ≡ t → meets_among load size p n ≡ any_below (meets_one load size p n) p
      go true q = earlier_among q ∙ sym q
      go false q = none_among e q ∙ sym q

-- One more of them is compared with those before it.

module _ (load size : ℕ → ℕ) (p : ℕ) where
  pub together_none : meets_together load size p 0 ≡ false
  unfolding meets_together
  together_none = any_none _

  pub together_more : (k : ℕ) → meets_together load size p k ≡ false → meets_one load size p k (p + k) ≡ false → meets_together load size p (k + 1) ≡ false
  unfolding meets_together meets_one meets_earlier
  together_more k e d = any_more _ k e d

  pub together_found : (n k : ℕ) → k < n → meets_one load size p k (p + k) ≡ true → meets_together load size p n ≡ true
  unfolding meets_together meets_one meets_earlier
  together_found n k l d = any_one _ n k l d

-- The one range from number p on.
pub among_one : (load size : ℕ → ℕ) (p : ℕ) → meets_among load size p 1 ≡ meets_earlier load size p
unfolding meets_among any_below
among_one load size p = rw add-zero

-- The first has none before it.
first_alone : (load size : ℕ → ℕ) → meets_earlier load size 0 ≡ false
unfolding meets_earlier
first_alone load size = any_none _

-- No range below a number meets an earlier one.

module _ (load size : ℕ → ℕ) where
  pub none_first : NoneMeets load size 1
  unfolding NoneMeets
  none_first = any_more _ 0 (any_none _) (first_alone load size)

  pub none_next : (n : ℕ) → NoneMeets load size n → meets_earlier load size n ≡ false → NoneMeets load size (n + 1)
  unfolding NoneMeets
  none_next n k e = any_more _ n k e

  pub none_more : (p n : ℕ) → NoneMeets load size p → meets_among load size p n ≡ false → NoneMeets load size (p + n)
  unfolding NoneMeets meets_among
  none_more p n k d = none_further _ p n k d

  pub none_below : (n i : ℕ) → i < n → NoneMeets load size n → meets_earlier load size i ≡ false
  unfolding NoneMeets
  none_below n i l k = any_below_lem _ n i l k

  -- one that lies above all before it, or below them all, meets none of them
  pub outermost : (n lowest highest first last : ℕ) → ((i : ℕ) → i < n → (lowest ≤ load i) × (load i + size i ≤ highest + 1)) → first ≡ load n → last + 1 ≡ load n + size n → ltb highest first || ltb last lowest ≡ true → meets_earlier load size n ≡ false
  unfolding meets_earlier
  outermost n lowest highest first last lie p q k =
      none_passes _ n
      (λ i l.
      let r = lie i l in
      apart_share _ _ _ _
      (⊎_elim
      (λ h. let a = ltb-true highest first h in inl (omega (arith, a, r, p)))
      (λ h. let a = ltb-true last lowest h in inr (omega (arith, a, r, q)))
      (one_passes _ _ k)))
