-- Of the numbers below n: what all of them pass, and how many pass a test.
use Prim.Native.Nat.{ℕ, zero, suc, ◌+◌, ◌-◌, ◌<◌, ◌≤◌}
use mathlib.Core.Path.{◌≡◌, refl, ap}
use mathlib.Core.Bool.{Bool, true, false, cond, ◌&&◌, and-eq-true_iff}
use mathlib.Core.Logic.{⊎_elim}
use native.Mathlib.Nat.{add-zero, add-suc, eq-or-lt_of_le, le_of_suc-le-suc}
use native.Mathlib.Numerals.{add-one}
use native.Mathlib.Omega.{arith}
use Rattle.loader.specs.Addresses.{count_below}
use Rattle.loader.proofs.AddressLaws.{on, count_yes, count_no}
use Rattle.compare.specs.Matching.{all_below}

module _ (test : ℕ → Bool) where
  pub all_none : all_below test 0 ≡ true
  unfolding all_below
  all_none = refl

  pub all_more : (n : ℕ) → all_below test (n + 1) ≡ (all_below test n && test n)
  unfolding all_below
  all_more n = rw add-one

  pub all_at : (n i : ℕ) → i < n → all_below test n ≡ true → test i ≡ true
  unfolding all_below
  all_at zero i h e = absurd (omega arith)
  all_at (suc n) i h e =
      let p = (and-eq-true_iff (all_below test n) (test n)).0 e in
      ⊎_elim (λ q. rw q p.1) (λ l. all_at n i l p.0) (eq-or-lt_of_le (le_of_suc-le-suc h))

  pub all_each : (n : ℕ) → ((i : ℕ) → i < n → test i ≡ true) → all_below test n ≡ true
  unfolding all_below
  all_each zero h = refl
  all_each (suc n) h = rw (all_each n (λ i l. h i (omega arith)), h n (omega arith))

-- what a number adds to the count
abbrev pub one : Bool → ℕ
one t = cond t 1 0

one_le : (t : Bool) → one t ≤ 1
one_le true = omega arith
one_le false = omega arith

one_same : (s t : Bool) → one s ≡ one t → s ≡ t
one_same true true h = refl
one_same true false h = absurd (omega arith)
one_same false true h = absurd (omega arith)
one_same false false h = refl

one_mono : (s t : Bool) → (s ≡ true → t ≡ true) → one s ≤ one t
one_mono true t h = rw (h refl) (omega arith)
one_mono false t h = omega arith

count_none_yet : (test : ℕ → Bool) → count_below test 0 ≡ 0
unfolding count_below
count_none_yet test = refl

count_step : (test : ℕ → Bool) (n : ℕ) → count_below test (suc n) ≡ count_below test n + one (test n)
count_step test n =
    on
    (test n)
    (λ y. rw (count_yes test n y, y) (omega arith))
    (λ k. rw (count_no test n k, k) (omega arith))

module _ (test : ℕ → Bool) where
  pub count_le : (n : ℕ) → count_below test n ≤ n
  count_le zero = omega (arith, count_none_yet test)
  count_le (suc n) = omega (arith, count_step test n, count_le n, one_le (test n))

  pub count_all : (n : ℕ) → ((i : ℕ) → i < n → test i ≡ true) → count_below test n ≡ n
  count_all zero h = count_none_yet test
  count_all (suc n) h =
      omega (arith, count_step test n, count_all n (λ i l. h i (omega arith)), ap one (h n (omega arith)))

  pub count_not_any : (n : ℕ) → ((i : ℕ) → i < n → test i ≡ false) → count_below test n ≡ 0
  count_not_any zero h = count_none_yet test
  count_not_any (suc n) h =
      omega (arith, count_step test n, count_not_any n (λ i l. h i (omega arith)), ap one (h n (omega arith)))

  -- where as many pass as there are, each passes
  pub count_full : (n : ℕ) → count_below test n ≡ n → (i : ℕ) → i < n → test i ≡ true
  count_full zero e i h = absurd (omega arith)
  count_full (suc n) e i h =
      let below : count_below test n ≡ n = omega (arith, count_step test n, count_le n, one_le (test n)) in
      let last : one (test n) ≡ 1 = omega (arith, count_step test n, count_le n, one_le (test n)) in
      ⊎_elim (λ q. rw q (one_same (test n) true last)) (λ l. count_full n below i l) (eq-or-lt_of_le (le_of_suc-le-suc h))

  -- the first m, and the k after them
  pub count_add : (m k : ℕ) → count_below test (m + k) ≡ count_below test m + count_below (λ i. test (m + i)) k
  count_add m zero = rw (add-zero m) (omega (arith, count_none_yet (λ i. test (m + i))))
  count_add m (suc k) = rw (add-suc m k) (omega (arith, count_step test (m + k), count_step (λ i. test (m + i)) k, count_add m k))

module _ (s t : ℕ → Bool) where
  pub count_mono : (n : ℕ) → ((i : ℕ) → i < n → s i ≡ true → t i ≡ true) → count_below s n ≤ count_below t n
  count_mono zero h = omega (arith, count_none_yet s, count_none_yet t)
  count_mono (suc n) h =
      omega (arith, count_step s n, count_step t n, count_mono n (λ i l. h i (omega arith)), one_mono (s n) (t n) (h n (omega arith)))

  -- where each that passes s passes t, and as many pass either, the same pass
  pub count_squeeze : (n : ℕ) → ((i : ℕ) → i < n → s i ≡ true → t i ≡ true) → count_below s n ≡ count_below t n → (i : ℕ) → i < n → s i ≡ t i
  count_squeeze zero h e i l = absurd (omega arith)
  count_squeeze (suc n) h e i l =
      let s-step = count_step s n in
      let t-step = count_step t n in
      let below = count_mono n (λ i k. h i (omega arith)) in
      let last = one_mono (s n) (t n) (h n (omega arith)) in
      let before : count_below s n ≡ count_below t n = omega arith in
      let here : one (s n) ≡ one (t n) = omega arith in
      ⊎_elim
      (λ q. rw q (one_same (s n) (t n) here))
      (λ k. count_squeeze n (λ i k. h i (omega arith)) before i k)
      (eq-or-lt_of_le (le_of_suc-le-suc l))

-- each that passes u passes one of s and t, and none passes both
pub count_either : (s t u : ℕ → Bool) (n : ℕ) → ((i : ℕ) → one (u i) ≡ one (s i) + one (t i)) → count_below u n ≡ count_below s n + count_below t n
count_either s t u zero h = omega (arith, count_none_yet s, count_none_yet t, count_none_yet u)
count_either s t u (suc n) h = omega (arith, count_step s n, count_step t n, count_step u n, count_either s t u n h, h n)

pub count_same : (s t : ℕ → Bool) (n : ℕ) → ((i : ℕ) → s i ≡ t i) → count_below s n ≡ count_below t n
count_same s t zero h = omega (arith, count_none_yet s, count_none_yet t)
count_same s t (suc n) h = omega (arith, count_step s n, count_step t n, count_same s t n h, ap one (h n))

-- a test that just the k numbers from m on pass
pub count_between : (test : ℕ → Bool) (m k n : ℕ) → m + k ≤ n → ((i : ℕ) → i < m → test i ≡ false) → ((i : ℕ) → m ≤ i → i < m + k → test i ≡ true) → ((i : ℕ) → m + k ≤ i → i < n → test i ≡ false) → count_below test n ≡ k
count_between test m k n h before within behind =
    let e : n ≡ m + k + (n - (m + k)) = omega arith in
    let first : count_below test m ≡ 0 = count_not_any test m before in
    let middle : count_below (λ i. test (m + i)) k ≡ k = count_all (λ i. test (m + i)) k (λ i l. within (m + i) (omega arith) (omega arith)) in
    let last : count_below (λ i. test (m + k + i)) (n - (m + k)) ≡ 0 = count_not_any (λ i. test (m + k + i)) (n - (m + k)) (λ i l. behind (m + k + i) (omega arith) (omega arith)) in
    rw e (omega (arith, count_add test (m + k) (n - (m + k)), count_add test m k))
