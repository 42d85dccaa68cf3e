-- The law of one outcome: two that are equal to the same are equal.
use Prim.Native.Nat.{ℕ}
use mathlib.Core.Path.{◌≡◌, sym, ◌∙◌}
use native.Mathlib.Omega.{arith}
use Rattle.std.specs.Prelude.{Result, Ok, Err, IfOk}
use Rattle.fields.specs.Rules.{Outcome, refused, done}
use Rattle.fields.specs.Refusal.{code_of, told_by}
use Rattle.fields.specs.declared.refusal.Refusal.{Refusal}

pub same_answer : {A : Type 0} {x r r' : A} → r ≡ x → r' ≡ x → r ≡ r'
same_answer p q = p ∙ sym q

pub same_outcome : {A B : Type 0} {x r r' : A} {y after after' : B} → (r ≡ x) × (after ≡ y) → (r' ≡ x) × (after' ≡ y) → (r ≡ r') × (after ≡ after')
same_outcome p q = (same_answer p.0 q.0, same_answer p.1 q.1)

-- a refusal, or what is handed on, by what is told of it and what else is seen of it
module _ {A B C : Type 0} (view : A → B) (seen : A → C) where
  abbrev pub both : A → B × C
  both a = (view a, seen a)

  pub same_handed : (c : C) (r r' : Result A Refusal) {o : Outcome B} → told_by view r ≡ o → told_by view r' ≡ o → IfOk r (λ a. seen a ≡ c) → IfOk r' (λ a. seen a ≡ c) → told_by both r ≡ told_by both r'
  same_handed c (Ok a) (Ok b) p q s t =
      let e : view a ≡ view b = same_view (view a) (view b) (same_answer p q) in
      let f = same_answer s t in
      λ i. done (e i, f i)
    where
      same_view : (x y : B) → done x ≡ done y → x ≡ y
      same_view x y e = cc
  same_handed c (Ok a) (Err r) p q s t = let e = same_answer p q in let z : ◌≡◌ {A = ℕ} 0 1 = cc in absurd (omega arith)
  same_handed c (Err r) (Ok a) p q s t = let e = same_answer p q in let z : ◌≡◌ {A = ℕ} 0 1 = cc in absurd (omega arith)
  same_handed c (Err r) (Err r') p q s t =
      let e = same_answer p q in
      let code : code_of r.reason ≡ code_of r'.reason = cc in
      let index : r.index ≡ r'.index = cc in
      λ i. refused (code i) (index i)

-- what is known of a result by two of its parts
pub parts_if_ok : {A B C E : Type 0} (f : A → B) (g : A → C) (b : B) (c : C) (r : Result A E) → IfOk r (λ a. (f a ≡ b) × (g a ≡ c)) → IfOk r (λ a. ◌≡◌ {A = B × C} (f a, g a) (b, c))
parts_if_ok f g b c (Ok a) p = λ i. (p.0 i, p.1 i)
parts_if_ok f g b c (Err e) p = tt
