-- A table of rules: where none holds, where one does, and tables that follow one another.
use Prim.Native.Nat.{ℕ, zero, suc, ◌+◌, ◌<◌}
use mathlib.Core.Path.{◌≡◌, refl, ◌∙◌}
use mathlib.Core.Bool.{Bool, true, false}
use mathlib.Core.List.{List, [], ◌∷◌, ◌++◌, append-nil}
use mathlib.Core.Logic.{⊎_elim}
use lib.ListN.{take, drop}
use native.Mathlib.Nat.{eq-or-lt_of_le, le_of_suc-le-suc}
use native.Mathlib.Numerals.{add-one}
use native.Mathlib.Omega.{arith}
use Rattle.fields.specs.Counting.{joined}
use Rattle.fields.specs.Rules.{Rule, Outcome, refused, done, unless, Silent, and_then, rules_first}

module _ {A : Type 0} where
  pub silent_done : (rs : List Rule) (a : A) → Silent rs → unless rs a ≡ done a
  unfolding unless
  silent_done [] a h = refl
  silent_done (r ∷ rs) a h = rw h.0 (silent_done rs a h.1)

  -- what no rule refuses is handed on as it is, and no rule held
  pub done_silent : (rs : List Rule) (a b : A) → unless rs a ≡ done b → Silent rs × (a ≡ b)
  unfolding unless
  done_silent [] a b h = (tt, cc)
  done_silent (r ∷ rs) a b h = go r.holds refl h (λ k. done_silent rs a b k)
    where
      go : (t : Bool) → r.holds ≡ t → elim t [ true ↦ refused r.code r.index | false ↦ unless rs a ] ≡ done b → (unless rs a ≡ done b → Silent rs × (a ≡ b)) → ((r.holds ≡ false) × Silent rs) × (a ≡ b)
      go true e k ih = let z : ◌≡◌ {A = ℕ} 0 1 = cc in absurd (omega arith)
      go false e k ih = ((e, (ih k).0), (ih k).1)

  pub silent_front : (rs ts : List Rule) (a : A) → Silent rs → unless (rs ++ ts) a ≡ unless ts a
  unfolding unless
  silent_front [] ts a h = refl
  silent_front (r ∷ rs) ts a h = rw h.0 (silent_front rs ts a h.1)

-- a refusal of the front table is the refusal of both, whatever was to be done
pub refused_front : {A B : Type 0} (rs ts : List Rule) (a : A) (b : B) {code index : ℕ} → unless rs a ≡ refused code index → unless (rs ++ ts) b ≡ refused code index
unfolding unless
refused_front [] ts a b h = let z : ◌≡◌ {A = ℕ} 0 1 = cc in absurd (omega arith)
refused_front {A} {B} (r ∷ rs) ts a b {code} {index} h = go r.holds refl h (λ k. refused_front rs ts a b k)
  where
    go : (t : Bool) → r.holds ≡ t → ◌≡◌ {A = Outcome A} (elim t [ true ↦ refused r.code r.index | false ↦ unless rs a ]) (refused code index) → (unless rs a ≡ refused code index → unless (rs ++ ts) b ≡ refused code index) → unless ((r ∷ rs) ++ ts) b ≡ refused code index
    go true e k ih = rw e (cc)
    go false e k ih = rw e (ih k)

-- a refusal is the same whatever was to be done
pub refused_any : {A B : Type 0} (rs : List Rule) (a : A) (b : B) {code index : ℕ} → unless rs a ≡ refused code index → unless rs b ≡ refused code index
refused_any rs a b h = rw append-nil at (refused_front rs [] a b h)

pub silent_append : (rs ts : List Rule) → Silent rs → Silent ts → Silent (rs ++ ts)
silent_append [] ts h k = k
silent_append (r ∷ rs) ts h k = (h.0, silent_append rs ts h.1 k)

pub silent_split : (rs ts : List Rule) → Silent (rs ++ ts) → Silent rs × Silent ts
silent_split [] ts h = (tt, h)
silent_split (r ∷ rs) ts h = let k = silent_split rs ts h.1 in ((h.0, k.0), k.1)

-- Rules that are asked before an outcome: they refuse, or leave it as it is.
module _ {A : Type 0} (rs : List Rule) (o : Outcome A) where
  pub first_silent : Silent rs → rules_first rs o ≡ o
  unfolding rules_first and_then
  first_silent h = rw (silent_done rs (tt {0}) h)

  pub first_refused : {code index : ℕ} → unless rs (tt {0}) ≡ refused code index → rules_first rs o ≡ refused code index
  unfolding rules_first and_then
  first_refused h = rw h

  pub first_done : {a : A} → rules_first rs o ≡ done a → Silent rs × (o ≡ done a)
  unfolding rules_first and_then
  first_done {a} h = go (unless rs (tt {0})) refl h
    where
      go : (p : Outcome (Unit {0})) → unless rs (tt {0}) ≡ p → and_then p (λ (u : Unit {0}). o) ≡ done a → Silent rs × (o ≡ done a)
      go (refused code index) e k = let z : ◌≡◌ {A = ℕ} 0 1 = cc in absurd (omega arith)
      go (done u) e k = ((done_silent rs (tt {0}) u e).0, k)

-- The rule at place k is the first that holds.

abbrev pub Begins : List Rule → ℕ → ℕ → Type 0
Begins [] code index = ⊥
Begins (r ∷ rs) code index = (r.holds ≡ true) × (r.code ≡ code) × (r.index ≡ index)

abbrev pub Broken : ℕ → List Rule → ℕ → ℕ → Type 0
Broken k rs code index = Silent (take k rs) × Begins (drop k rs) code index

pub broken : {A : Type 0} (k : ℕ) (rs : List Rule) (a : A) {code index : ℕ} → Broken k rs code index → unless rs a ≡ refused code index
unfolding unless
broken zero [] a h = absurd h.1
broken (suc k) [] a h = absurd h.1
broken zero (r ∷ rs) a h = rw (h.1.0, h.1.1, h.1.2)
broken (suc k) (r ∷ rs) a h = rw h.0.0 (broken k rs a (h.0.1, h.1))

-- A table that is made number by number.
module _ (g : ℕ → List Rule) where
  pub silent_none : Silent (joined g 0)
  unfolding joined
  silent_none = tt

  pub silent_more : (n : ℕ) → Silent (joined g n) → Silent (g n) → Silent (joined g (n + 1))
  unfolding joined
  silent_more n h k = rw add-one (silent_append (joined g n) (g n) h k)

  pub silent_at : (n i : ℕ) → i < n → Silent (joined g n) → Silent (g i)
  unfolding joined
  silent_at zero i h k = absurd (omega arith)
  silent_at (suc n) i h k =
      let p = silent_split (joined g n) (g n) k in
      ⊎_elim (λ e. rw e p.1) (λ l. silent_at n i l p.0) (eq-or-lt_of_le (le_of_suc-le-suc h))

-- the first number whose rules refuse decides for the whole table
pub refused_at : {A B : Type 0} (g : ℕ → List Rule) (n i : ℕ) (a : A) (b : B) {code index : ℕ} → i < n → Silent (joined g i) → unless (g i) a ≡ refused code index → unless (joined g n) b ≡ refused code index
unfolding joined
refused_at g zero i a b h k e = absurd (omega arith)
refused_at {A} {B} g (suc n) i a b {code} {index} h k e =
    ⊎_elim
    (λ q. silent_front (joined g n) (g n) b (rw q at k) ∙ refused_any (g n) a b (rw q at e))
    (λ l. refused_front (joined g n) (g n) b b (refused_at g n i a b l k e))
    (eq-or-lt_of_le (le_of_suc-le-suc h))
