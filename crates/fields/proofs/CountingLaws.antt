-- What is said of the numbers below a count: none, and one more.
use Prim.Native.Nat.{ℕ, zero, suc, ◌+◌, ◌<◌, ◌≤◌}
use mathlib.Core.Path.{◌≡◌, refl, ap, sym, ◌∙◌}
use mathlib.Core.Bool.{Bool, true, false, ◌||◌, cond, true≢false, or-true, or_assoc, or_comm}
use mathlib.Core.List.{List, [], ◌∷◌, ◌++◌, append-nil, append_assoc, map-append}
use mathlib.Core.Logic.{⊎_elim}
use native.Mathlib.Numerals.{add-one}
use native.Mathlib.Nat.{add-zero, add-suc, eq-or-lt_of_le, le_of_suc-le-suc}
use native.Mathlib.Omega.{arith}
use lib.Dec.{ltb}
use lib.ListN.{length, get_or, length-append, get_or-append}
use lib.Seq.{get_or_at}
use borrow.Author.Tests.{lt-ltb, le-ltb, ltb-true}
use Rattle.std.proofs.Common.{Some, None}
use Rattle.std.specs.Option.{unwrap_or, is_some, option_or}
use Rattle.fields.specs.Counting.{joined, any_below, first_below, found_below}
use Rattle.fields.specs.Program.{Numbered, blocks_of_parts}
use Rattle.fields.proofs.TestLaws.{le_or_lt}

module _ {A : Type 0} (g : ℕ → List A) where
  pub joined_none : joined g 0 ≡ []
  unfolding joined
  joined_none = refl

  pub joined_more : (n : ℕ) → joined g (n + 1) ≡ joined g n ++ g n
  unfolding joined
  joined_more n = rw add-one

-- what is joined for the first p numbers, and for n more
pub joined_further : {A : Type 0} (g : ℕ → List A) (p n : ℕ) → joined g (p + n) ≡ joined g p ++ joined (λ k. g (p + k)) n
joined_further g p zero = rw (add-zero p, joined_none (λ k. g (p + k))) (sym (append-nil (joined g p)))
joined_further g p (suc n) =
    let e : p + suc n ≡ p + n + 1 = omega arith in
    rw (e, joined_more g (p + n), joined_further g p n, ← (add-one n), joined_more (λ k. g (p + k)) n) (append_assoc (joined g p) (joined (λ k. g (p + k)) n) (g (p + n)))

-- one thing for each number: as many, and each by its number
module _ {A : Type 0} (f : ℕ → A) where
  pub length_each : (n : ℕ) → length (joined (λ i. f i ∷ []) n) ≡ n
  unfolding joined
  length_each zero = refl
  length_each (suc n) = length-append (joined (λ i. f i ∷ []) n) (f n ∷ []) ∙ rw (length_each n) (omega arith)

  pub get_or_each : (n i : ℕ) (d : A) → i < n → get_or (joined (λ i. f i ∷ []) n) i d ≡ f i
  unfolding joined
  get_or_each zero i d h = absurd (omega arith)
  get_or_each (suc n) i d h =
      ⊎_elim
      (λ e. rw e (get_or_at (joined (λ i. f i ∷ []) n) (f n) [] d n (length_each n)))
      (λ l. get_or-append (joined (λ i. f i ∷ []) n) (f n ∷ []) d i (rw (length_each n) l) ∙ get_or_each n i d l)
      (eq-or-lt_of_le (le_of_suc-le-suc h))

-- the blocks of parts that are made number by number, and of one more
pub blocks_joined : (g : ℕ → List Numbered) (n : ℕ) → blocks_of_parts (joined g (n + 1)) ≡ blocks_of_parts (joined g n) ++ blocks_of_parts (g n)
blocks_joined g n = rw (joined_more g n, map-append)

-- what agrees on the numbers below n is joined to the same
pub joined_same : {A : Type 0} (g h : ℕ → List A) (n : ℕ) → ((i : ℕ) → i < n → g i ≡ h i) → joined g n ≡ joined h n
unfolding joined
joined_same g h zero e = refl
joined_same g h (suc n) e = rw (joined_same g h n (λ i l. e i (omega arith)), e n (omega arith))

pub any_same : (test other : ℕ → Bool) (n : ℕ) → ((i : ℕ) → i < n → test i ≡ other i) → any_below test n ≡ any_below other n
unfolding any_below
any_same test other zero e = refl
any_same test other (suc n) e = rw (any_same test other n (λ i l. e i (omega arith)), e n (omega arith))

module _ (test : ℕ → Bool) where
  pub any_none : any_below test 0 ≡ false
  unfolding any_below
  any_none = refl

  pub any_more : (n : ℕ) → any_below test n ≡ false → test n ≡ false → any_below test (n + 1) ≡ false
  unfolding any_below
  any_more n h e = rw (add-one, h, e)

  pub any_on : (n : ℕ) → any_below test (n + 1) ≡ any_below test n || test n
  unfolding any_below
  any_on n = rw add-one

  -- where each fails, none passes
  pub none_passes : (n : ℕ) → ((i : ℕ) → i < n → test i ≡ false) → any_below test n ≡ false
  unfolding any_below
  none_passes zero h = refl
  none_passes (suc n) h = rw (none_passes n (λ i l. h i (omega arith)), h n (omega arith))

  -- one that passes is enough
  pub any_one : (n i : ℕ) → i < n → test i ≡ true → any_below test n ≡ true
  unfolding any_below
  any_one zero i h e = absurd (omega arith)
  any_one (suc n) i h e = go (any_below test n) refl (λ k. any_one n i k e)
    where
      go : (t : Bool) → any_below test n ≡ t → (i < n → any_below test n ≡ true) → any_below test n || test n ≡ true
      go true q ih = rw q
      go false q ih = ⊎_elim (λ k. rw (q, ← k, e)) (λ k. absurd (true≢false (sym (ih k) ∙ q))) (eq-or-lt_of_le (le_of_suc-le-suc h))

  -- where none passes, each fails
  pub any_below_lem : (n i : ℕ) → i < n → any_below test n ≡ false → test i ≡ false
  any_below_lem n i h e = go (test i) refl
    where
      go : (t : Bool) → test i ≡ t → test i ≡ false
      go true q = absurd (true≢false (sym (any_one n i h q) ∙ e))
      go false q = q

-- the first of them, and the others
pub any_first : (test : ℕ → Bool) (n : ℕ) → any_below test (suc n) ≡ test 0 || any_below (λ i. test (suc i)) n
unfolding any_below
any_first test zero = or_comm false (test 0)
any_first test (suc n) =
    ap (λ (t : Bool). t || test (suc n)) (any_first test n) ∙ or_assoc (test 0) (any_below (λ i. test (suc i)) n) (test (suc n))

-- the first p of them, and n more
pub any_further : (test : ℕ → Bool) (p n : ℕ) → any_below test (p + n) ≡ any_below test p || any_below (λ q. test (p + q)) n
unfolding any_below
any_further test p zero = rw add-zero (or_comm false (any_below test p))
any_further test p (suc n) =
    rw add-suc
    (ap (λ (t : Bool). t || test (p + n)) (any_further test p n)
    ∙ or_assoc (any_below test p) (any_below (λ q. test (p + q)) n) (test (p + n)))

-- none of the first p passes, and none of n more
pub none_further : (test : ℕ → Bool) (p n : ℕ) → any_below test p ≡ false → any_below (λ q. test (p + q)) n ≡ false → any_below test (p + n) ≡ false
none_further test p n e d = rw (any_further test p n, e, d)

-- The first number that passes is known by three facts: it is no larger than the count, none below it passes, and it passes where it is below the count.
pub record IsFirst (test : ℕ → Bool) (n r : ℕ) : Type 0 where
  pub low : r ≤ n
  pub none : any_below test r ≡ false
  pub passes : r < n → test r ≡ true

module _ (test : ℕ → Bool) where
  -- of two such numbers neither is smaller
  not_smaller : (n r r' : ℕ) → IsFirst test n r → IsFirst test n r' → r < r' → ⊥
  not_smaller n r r' h k l =
      true≢false (sym (h.passes (omega (arith, l, k.low))) ∙ any_below_lem test r' r l k.none)

  one_first : (n r r' : ℕ) → IsFirst test n r → IsFirst test n r' → r ≡ r'
  one_first n r r' h k =
      ⊎_elim
      (λ a. ⊎_elim (λ b. omega (arith, a, b)) (λ b. absurd (not_smaller n r r' h k b)) (le_or_lt r' r))
      (λ a. absurd (not_smaller n r' r k h a))
      (le_or_lt r r')

  pub first_known : (n : ℕ) → IsFirst test n (first_below test n)
  unfolding first_below
  first_known zero = record { low = omega arith; none = any_none test; passes = λ l. absurd (omega arith) }
  first_known (suc n) = go (any_below test n) refl (test n) refl (first_known n)
    where
      below : any_below test n ≡ true → IsFirst test n (first_below test n) → first_below test n < n
      below e h =
          ⊎_elim
          (λ q. absurd (true≢false (sym e ∙ rw q at h.none)))
          (λ l. l)
          (eq-or-lt_of_le {n = first_below test n} {m = n} h.low)

      go : (some : Bool) → any_below test n ≡ some → (here : Bool) → test n ≡ here → IsFirst test n (first_below test n) → IsFirst test (suc n) (cond (any_below test n) (first_below test n) (cond (test n) n (suc n)))
      go true e here d h = rw e (record { low = omega (arith, h.low); none = h.none; passes = λ l. h.passes (below e h) })
      go false e true d h = rw (e, d) (record { low = omega arith; none = e; passes = λ l. d })
      go false e false d h =
          rw (e, d) (record { low = omega arith; none = rw (← (add-one n)) (any_more test n e d); passes = λ l. absurd (omega arith) })

  -- .. and these three make it the one
  pub first_is : (n r : ℕ) → IsFirst test n r → r ≡ first_below test n
  first_is n r h = one_first n r (first_below test n) h (first_known n)

  -- it is the count where none passes ..
  pub first_none : (n : ℕ) → any_below test n ≡ false → n ≡ first_below test n
  first_none n e = first_is n n (record { low = omega arith; none = e; passes = λ l. absurd (omega arith) })

  -- .. and this one where it passes and none before it does
  pub first_found : (n r : ℕ) → r < n → any_below test r ≡ false → test r ≡ true → r ≡ first_below test n
  first_found n r l e d = first_is n r (record { low = omega arith; none = e; passes = λ _. d })

  -- some number passes where the first that does lies below the count
  pub any_is : (n : ℕ) → ltb (first_below test n) n ≡ any_below test n
  any_is n =
      let h = first_known n in
      ⊎_elim
      (λ q. rw (le-ltb (first_below test n) n (omega (arith, q))) (sym (rw q at h.none)))
      (λ l. rw (lt-ltb (first_below test n) n l) (sym (any_one test n (first_below test n) l (h.passes l))))
      (eq-or-lt_of_le {n = first_below test n} {m = n} h.low)

-- tests that agree on the numbers below n have the same first
pub first_same : (test other : ℕ → Bool) (n : ℕ) → ((i : ℕ) → i < n → test i ≡ other i) → first_below test n ≡ first_below other n
unfolding first_below
first_same test other zero e = refl
first_same test other (suc n) e =
    rw (any_same test other n (λ i l. e i (omega arith)), first_same test other n (λ i l. e i (omega arith)), e n (omega arith))

-- The first that passes one of two tests: the first that passes the other, among those before the first that passes the one.
module _ (p q : ℕ → Bool) (n : ℕ) where
  either_known : IsFirst (λ i. p i || q i) n (first_below q (first_below p n))
  either_known =
      let h = first_known p n in
      let k = first_known q (first_below p n) in
      record {
        low = omega (arith, h.low, k.low);
        none =
            none_passes (λ i. p i || q i) (first_below q (first_below p n))
            (λ i l. rw (any_below_lem p (first_below p n) i (omega (arith, k.low)) h.none, any_below_lem q (first_below q (first_below p n)) i l k.none));
        passes =
            λ l.
            ⊎_elim
            (λ e. rw (rw (← e) at h.passes (omega (arith, e))))
            (λ m. rw (k.passes m) (or-true (p (first_below q (first_below p n)))))
            (eq-or-lt_of_le {n = first_below q (first_below p n)} {m = first_below p n} k.low);
      }

  pub first_either : first_below q (first_below p n) ≡ first_below (λ i. p i || q i) n
  first_either = first_is (λ i. p i || q i) n (first_below q (first_below p n)) either_known

-- What is found is the first that passes, and nothing is found where none does.
module _ (test : ℕ → Bool) (n : ℕ) where
  pub found_none : any_below test n ≡ false → None ≡ found_below test n
  unfolding found_below
  found_none e = rw e

  pub found_some : (r : ℕ) → r < n → any_below test r ≡ false → test r ≡ true → Some r ≡ found_below test n
  unfolding found_below
  found_some r l e d = rw (any_one test n r l d, ← (first_found test n r l e d))

  pub found_any : is_some (found_below test n) ≡ any_below test n
  unfolding found_below
  found_any = go (any_below test n)
    where
      go : (t : Bool) → is_some (cond t (Some (first_below test n)) None) ≡ t
      go true = refl
      go false = refl

  pub found_first : unwrap_or (found_below test n) n ≡ first_below test n
  unfolding found_below
  found_first = go (any_below test n) refl
    where
      go : (t : Bool) → any_below test n ≡ t → unwrap_or (cond t (Some (first_below test n)) None) n ≡ first_below test n
      go true e = refl
      go false e = first_none test n e

-- one that is found passes, and none before it; where nothing is found none passes
module _ (test : ℕ → Bool) (n : ℕ) where
  -- what is found, by the number
  found_number : found_below test n ≡ cond (ltb (first_below test n) n) (Some (first_below test n)) None
  unfolding found_below
  found_number = rw any_is

  pub found_known : (r : ℕ) → Some r ≡ found_below test n → (r < n) × (any_below test r ≡ false) × (test r ≡ true)
  found_known r e = go (ltb (first_below test n) n) refl (e ∙ found_number)
    where
      go : (t : Bool) → ltb (first_below test n) n ≡ t → Some r ≡ cond t (Some (first_below test n)) None → (r < n) × (any_below test r ≡ false) × (test r ≡ true)
      go true q k =
          let s : r ≡ first_below test n = cc in
          let h = first_known test n in
          let l = ltb-true _ _ q in
          rw s (l, h.none, h.passes l)
      go false q k = cc

  pub none_found : None ≡ found_below test n → any_below test n ≡ false
  none_found e = sym (found_any test n) ∙ rw (← e) refl

pub found_same : (test other : ℕ → Bool) (n : ℕ) → ((i : ℕ) → i < n → test i ≡ other i) → found_below test n ≡ found_below other n
unfolding found_below
found_same test other n e = rw (any_same test other n e, first_same test other n e)

-- The first that passes one of two tests: one found by the other, among those before the one that is found by the first, or else this.
module _ (p q : ℕ → Bool) (n : ℕ) where
  pub found_either : option_or (found_below q (unwrap_or (found_below p n) n)) (found_below p n) ≡ found_below (λ i. p i || q i) n
  found_either =
      let a = first_below p n in
      let b = first_below q a in
      let h = first_known p n in
      let k = first_known q a in
      rw (found_first p n, found_number q a, found_number p n, found_number (λ i. p i || q i) n, ← (first_either p q n))
      (⊎_elim
      (λ e. rw (e, le-ltb a a (omega arith)))
      (λ l. rw (lt-ltb b a l, lt-ltb b n (omega (arith, h.low))))
      (eq-or-lt_of_le {n = b} {m = a} k.low))
