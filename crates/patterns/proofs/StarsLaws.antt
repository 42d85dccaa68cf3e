-- A row of stars takes what one star does; a pattern without a star takes only names of its own length.
use Prim.Native.Nat.{ℕ, suc, ◌+◌, ◌-◌, ◌<◌, ◌≤◌}
use mathlib.Core.Path.{◌≡◌, refl, sym, ap, ◌∙◌}
use mathlib.Core.Bool.{Bool, true, false, not, cond, or_assoc, or_self}
use mathlib.Core.List.{List, [], ◌∷◌}
use native.Mathlib.Omega.{arith}
use lib.Dec.{eqb}
use lib.ListN.{length, take, drop, get_or, length-drop}
use lib.Seq.{drop-cons, drop-drop}
use borrow.Author.Rules.{part_to_end}
use borrow.Author.Tests.{eqb-true, eqb-false}
use Rattle.std.specs.List.{list_any, prefix_len}
use Rattle.fields.proofs.TestLaws.{neither_holds}
use Rattle.patterns.specs.Taking.{star, takes}
use Rattle.patterns.specs.Steps.{TakesNoPart}
use Rattle.patterns.specs.Stars.{stars_in_front, has_star, first_place}
use Rattle.patterns.proofs.TakingLaws.{no_character, other_rest, star_takes}

-- As the searches for a star and for another byte find them.

pub stars_first : (p : List ℕ) → stars_in_front p ≡ prefix_len (λ b. eqb b star) p
unfolding stars_in_front
stars_first [] = refl
stars_first (b ∷ bs) = go (eqb b star) (stars_first bs)
  where
    go : (t : Bool) → stars_in_front bs ≡ prefix_len (λ b. eqb b star) bs → cond t (suc (stars_in_front bs)) 0 ≡ cond t (1 + prefix_len (λ b. eqb b star) bs) 0
    go true e = omega arith
    go false e = refl

pub has_star_any : (p : List ℕ) → has_star p ≡ list_any (λ b. eqb b star) p
unfolding has_star
has_star_any [] = refl
has_star_any (b ∷ bs) = rw (has_star_any bs) refl

-- before the first star there is none
pub none_before : (p : List ℕ) → has_star (take (prefix_len (λ b. not (eqb b star)) p) p) ≡ false
unfolding has_star
none_before [] = refl
none_before (b ∷ bs) = go (eqb b star) refl (none_before bs)
  where
    go : (t : Bool) → eqb b star ≡ t → has_star (take (prefix_len (λ b. not (eqb b star)) bs) bs) ≡ false → has_star (take (cond (not t) (1 + prefix_len (λ b. not (eqb b star)) bs) 0) (b ∷ bs)) ≡ false
    go true e h = refl
    go false e h =
        let one : 1 + prefix_len (λ b. not (eqb b star)) bs ≡ suc (prefix_len (λ b. not (eqb b star)) bs) = omega arith in
        rw (one, e) h

pub stars_few : (p : List ℕ) → stars_in_front p ≤ length p
unfolding stars_in_front
stars_few [] = omega arith
stars_few (b ∷ bs) = go (eqb b star) (stars_few bs)
  where
    go : (t : Bool) → stars_in_front bs ≤ length bs → cond t (suc (stars_in_front bs)) 0 ≤ suc (length bs)
    go true h = omega arith
    go false h = omega arith

-- two stars take what one does, and so does any row of them
two_as_one : (p name : List ℕ) → takes (star ∷ (star ∷ p)) name ≡ takes (star ∷ p) name
unfolding takes
two_as_one p [] = refl
two_as_one p (c ∷ cs) = rw (two_as_one p cs, or_assoc (takes p (c ∷ cs)), or_self)

-- a star that does not take a name takes no later part either: it may take all characters before that
pub no_later : (p name : List ℕ) → takes (star ∷ p) name ≡ false → TakesNoPart (star ∷ p) name
no_later p name refused k = go (takes (star ∷ p) (drop k name)) refl
  where
    go : (t : Bool) → takes (star ∷ p) (drop k name) ≡ t → t ≡ false
    go true e = sym (star_takes (star ∷ p) name k e) ∙ two_as_one p name ∙ refused
    go false e = refl

pub row_as_one : (p name : List ℕ) → takes (star ∷ p) name ≡ takes (star ∷ drop (stars_in_front p) p) name
unfolding stars_in_front
row_as_one [] name = refl
row_as_one (b ∷ bs) name = go (eqb b star) refl (row_as_one bs name)
  where
    go : (t : Bool) → eqb b star ≡ t → takes (star ∷ bs) name ≡ takes (star ∷ drop (stars_in_front bs) bs) name → takes (star ∷ (b ∷ bs)) name ≡ takes (star ∷ drop (stars_in_front (b ∷ bs)) (b ∷ bs)) name
    go true e more = rw (eqb-true b star e) (two_as_one bs name ∙ more)
    go false e more = rw e

-- At a star, of the bytes from there to the end: the row ends inside the pattern, and it is passed.

module _ (p : List ℕ) (i n : ℕ) (inside : i < length p) (e : get_or p i 0 ≡ star) (row : n ≡ stars_in_front (take (length p - i) (drop i p))) where
  row_is : n ≡ suc (stars_in_front (drop (suc i) p))
  unfolding stars_in_front
  row_is = row ∙ rw (part_to_end p i, drop-cons p i 0 inside, e)

  pub row_inside : (0 < n) × (i + n ≤ length p)
  row_inside = omega (arith, row_is, stars_few (drop (suc i) p), length-drop (suc i) p)

  pub stars_passed : (name : List ℕ) → takes (drop i p) name ≡ takes (star ∷ drop (i + n) p) name
  stars_passed name =
      let s = stars_in_front (drop (suc i) p) in
      let there : i + n ≡ suc i + s = omega (arith, row_is) in
      rw (there, ← drop-drop s (suc i) p, drop-cons p i 0 inside, e) (row_as_one (drop (suc i) p) name)

-- a pattern without a star takes only names of its own length
pub own_length : (p name : List ℕ) → has_star p ≡ false → (length name ≡ length p → ⊥) → takes p name ≡ false
unfolding has_star takes
own_length [] [] none other = absurd (other refl)
own_length [] (c ∷ cs) none other = refl
own_length (p ∷ ps) [] none other = no_character p ps (eqb-false p star (neither_holds (eqb p star) (has_star ps) none).0)
own_length (p ∷ ps) (c ∷ cs) none other =
    let n = neither_holds (eqb p star) (has_star ps) none in
    other_rest p ps (eqb-false p star n.0) c cs (own_length ps cs n.1 (λ e. other (ap suc e)))

-- The first place: of a pattern with a star, of any other; and no earlier one can do.

module _ (p : List ℕ) (n : ℕ) where
  pub place_star : has_star p ≡ true → first_place p n ≡ 0
  unfolding first_place
  place_star e = rw e

  pub place_end : has_star p ≡ false → first_place p n ≡ n - length p
  unfolding first_place
  place_end e = rw e

pub place_within : (p : List ℕ) (n : ℕ) → first_place p n ≤ n
unfolding first_place
place_within p n = go (has_star p)
  where
    go : (t : Bool) → cond t 0 (n - length p) ≤ n
    go true = omega arith
    go false = omega arith

pub not_earlier : (p name : List ℕ) (k : ℕ) → k < first_place p (length name) → takes p (drop k name) ≡ false
unfolding first_place
not_earlier p name k h = go (has_star p) refl
  where
    go : (t : Bool) → has_star p ≡ t → takes p (drop k name) ≡ false
    go true e = absurd (omega (arith, rw e at h))
    go false e = own_length p (drop k name) e (λ same. omega (arith, rw e at h, length-drop k name))
