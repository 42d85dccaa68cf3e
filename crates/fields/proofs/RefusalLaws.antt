-- What is true of the code and the index of every rule of a table is true of its refusal.
use Prim.Native.Nat.{ℕ, zero, suc, ◌<◌}
use mathlib.Core.Path.{◌≡◌, refl}
use mathlib.Core.Bool.{Bool, true, false}
use mathlib.Core.List.{List, [], ◌∷◌, ◌++◌, append-nil}
use native.Mathlib.Omega.{arith}
use Rattle.fields.specs.Counting.{joined}
use Rattle.fields.specs.Rules.{Rule, Outcome, refused, done, unless, Silent, and_then, rules_first}

-- P is true of each rule's code and index
abbrev pub EachRule : (ℕ → ℕ → Type 0) → List Rule → Type 0
EachRule P [] = Unit {0}
EachRule P (r ∷ rs) = P r.code r.index × EachRule P rs

-- P is true of a refusal, and Q of what comes of the call
abbrev pub OfOutcome : {A : Type 0} → (ℕ → ℕ → Type 0) → (A → Type 0) → Outcome A → Type 0
OfOutcome P Q (refused code index) = P code index
OfOutcome P Q (done a) = Q a

module _ (P : ℕ → ℕ → Type 0) where
  pub rules_append : (rs ts : List Rule) → EachRule P rs → EachRule P ts → EachRule P (rs ++ ts)
  rules_append [] ts h k = k
  rules_append (r ∷ rs) ts h k = (h.0, rules_append rs ts h.1 k)

  pub rules_joined : (g : ℕ → List Rule) (n : ℕ) → ((i : ℕ) → i < n → EachRule P (g i)) → EachRule P (joined g n)
  unfolding joined
  rules_joined g zero h = tt
  rules_joined g (suc n) h =
      rules_append (joined g n) (g n) (rules_joined g n (λ i l. h i (omega arith))) (h n (omega arith))

  module _ {A : Type 0} (Q : A → Type 0) where
    -- a table with another behind it, which is asked only where the first is silent
    pub outcome_front : (rs ts : List Rule) (a : A) → EachRule P rs → (Silent rs → OfOutcome P Q (unless ts a)) → OfOutcome P Q (unless (rs ++ ts) a)
    unfolding unless
    outcome_front [] ts a h k = k tt
    outcome_front (r ∷ rs) ts a h k = go r.holds refl (λ l. outcome_front rs ts a h.1 l)
      where
        go : (t : Bool) → r.holds ≡ t → ((Silent rs → OfOutcome P Q (unless ts a)) → OfOutcome P Q (unless (rs ++ ts) a)) → OfOutcome P Q (unless ((r ∷ rs) ++ ts) a)
        go true e ih = rw e h.0
        go false e ih = rw e (ih (λ s. k (e, s)))

    pub outcome_unless : (rs : List Rule) (a : A) → EachRule P rs → (Silent rs → Q a) → OfOutcome P Q (unless rs a)
    unfolding unless
    outcome_unless rs a h k = rw append-nil at (outcome_front rs [] a h k)

    -- rules that are asked before an outcome
    pub outcome_first : (rs : List Rule) (o : Outcome A) → EachRule P rs → (Silent rs → OfOutcome P Q o) → OfOutcome P Q (rules_first rs o)
    unfolding unless rules_first and_then
    outcome_first [] o h k = k tt
    outcome_first (r ∷ rs) o h k = go r.holds refl (λ l. outcome_first rs o h.1 l)
      where
        go : (t : Bool) → r.holds ≡ t → ((Silent rs → OfOutcome P Q o) → OfOutcome P Q (rules_first rs o)) → OfOutcome P Q (rules_first (r ∷ rs) o)
        go true e ih = rw e h.0
        go false e ih = rw e (ih (λ s. k (e, s)))
