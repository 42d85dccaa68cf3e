-- What the two steps know at each turn, and what each of their answers says.
use Prim.Native.Nat.{ℕ, zero, suc, ◌+◌, ◌-◌, ◌<◌, ◌≤◌}
use mathlib.Core.Path.{◌≡◌, refl, sym, ap, ◌∙◌}
use mathlib.Core.Bool.{Bool, true, false, cond, ◌||◌}
use mathlib.Core.Logic.{◌⊎◌, inl, inr}
use mathlib.Core.List.{List, [], ◌∷◌}
use native.Mathlib.Numerals.{add-one}
use native.Mathlib.Omega.{arith}
use lib.Dec.{eqb, ltb}
use lib.ListN.{length, take, drop, get_or, take-append-drop, drop_of_length-le}
use lib.Seq.{drop-cons, drop-drop, drop-nil, drop-length}
use borrow.Author.Rules.{part_to_end}
use borrow.Author.Tests.{ne_eqb, ltb-true, ltb-false}
use Rattle.patterns.specs.Taking.{star, question, takes}
use Rattle.patterns.specs.Stars.{stars_in_front}
use Rattle.patterns.specs.Steps.{TakesNoPart, Matches, Tries}
use Rattle.patterns.specs.declared.Match.{Match}
use Rattle.patterns.specs.declared.Match.TheVariants.{Taken, NotHere, Never}
use Rattle.patterns.proofs.TakingLaws.{wants, no_character, one_character, other_character, no_place_left}
use Rattle.patterns.proofs.StarsLaws.{stars_passed}

-- one byte more that is no star wants one character more
wants_more : (p : List ℕ) (i : ℕ) → i < length p → (get_or p i 0 ≡ star → ⊥) → wants (take (suc i) p) ≡ suc (wants (take i p))
unfolding wants
wants_more [] i h plain = absurd (omega arith)
wants_more (b ∷ bs) zero h plain = rw (ne_eqb b star plain)
wants_more (b ∷ bs) (suc i) h plain = rw (wants_more bs i (omega arith) plain) (go (eqb b star) (wants (take i bs)))
  where
    go : (t : Bool) (n : ℕ) → cond t (suc n) (suc (suc n)) ≡ suc (cond t n (suc n))
    go true n = refl
    go false n = refl

-- The first i bytes of the pattern, none of them a star, took a character each, and what is left decides.
pub record Run (p name : List ℕ) (i : ℕ) : Type 0 where
  pub within : i ≤ length p
  pub named : i ≤ length name
  pub plain : wants (take i p) ≡ i
  pub same : takes (drop i p) (drop i name) ≡ takes p name

pub run_none : (p name : List ℕ) → Run p name 0
unfolding wants
run_none p name = record { within = omega arith; named = omega arith; plain = refl; same = refl }

module _ (p name : List ℕ) (i : ℕ) (run : Run p name i) where
  -- the pattern is at its end: so is the name, or it is not
  pub run_taken : (length p ≤ i) × (length name ≤ i) → takes p name ≡ true
  unfolding takes
  run_taken h = sym run.same ∙ rw (drop_of_length-le p h.0, drop_of_length-le name h.1)

  pub run_left : (length p ≤ i) × (i < length name) → takes p name ≡ false
  unfolding takes
  run_left h = sym run.same ∙ rw (drop_of_length-le p h.0, drop-cons name i 0 h.1)

  -- what is never taken behind the run is never taken with it
  run_never : TakesNoPart (drop i p) (drop i name) → TakesNoPart p name
  run_never h = rw (take-append-drop i p) at (no_place_left (take i p) (drop i p) name (rw run.plain h))

  -- at a star both rests are handed on, and what is answered of them is answered of both wholes
  pub run_star : i < length p → get_or p i 0 ≡ star → (n : ℕ) → n ≡ stars_in_front (take (length p - i) (drop i p)) → (r : Match) → Tries (star ∷ take (length p - (i + n)) (drop (i + n) p)) (take (length name - i) (drop i name)) r → Matches p name r
  run_star h e n row Taken tries = sym run.same ∙ stars_passed p i n h e row (drop i name) ∙ rw (part_to_end p (i + n), part_to_end name i) at tries
  run_star h e n row NotHere tries = absurd tries
  run_star h e n row Never tries = run_never (λ k. stars_passed p i n h e row (drop k (drop i name)) ∙ rw (part_to_end p (i + n), part_to_end name i) at (tries k))

  -- any other byte wants a character: there is none, it is another, or it suits
  module _ (inside : i < length p) (other : get_or p i 0 ≡ star → ⊥) where
    pub run_short : length name ≤ i → TakesNoPart p name
    run_short h = run_never (λ k. rw (drop_of_length-le name h, drop-nil, drop-cons p i 0 inside) (no_character _ _ other))

    module _ (more : i < length name) where
      pub run_differs : eqb (get_or p i 0) question || eqb (get_or p i 0) (get_or name i 0) ≡ false → takes p name ≡ false
      run_differs e = sym run.same ∙ rw (drop-cons p i 0 inside, drop-cons name i 0 more) (other_character _ _ other _ _ e)

      pub run_on : eqb (get_or p i 0) question || eqb (get_or p i 0) (get_or name i 0) ≡ true → Run p name (i + 1)
      run_on e = rw add-one record {
        within = inside;
        named = more;
        plain = wants_more p i inside other ∙ ap suc run.plain;
        same = sym (one_character _ _ other _ _ e) ∙ rw (drop-cons p i 0 inside, drop-cons name i 0 more) at run.same;
      }

-- all answers but the first say that the name is not taken
pub not_taken : (p name : List ℕ) (r : Match) → (r ≡ Taken → ⊥) → Matches p name r → takes p name ≡ false
not_taken p name Taken other h = absurd (other refl)
not_taken p name NotHere other h = h
not_taken p name Never other h = h 0

pub here_or_never : (r : Match) → (r ≡ NotHere) ⊎ (r ≡ Never) → r ≡ Taken → ⊥
here_or_never r (inl e) is = cc
here_or_never r (inr e) is = cc

-- What follows the star takes no part of the name that begins before this place.
abbrev pub Tried : List ℕ → List ℕ → ℕ → Type 0
Tried p name at = (k : ℕ) → k < at → takes p (drop k name) ≡ false

module _ (p name : List ℕ) (at : ℕ) (tried : Tried p name at) where
  -- from this place on it takes none either: what was tried before and what never can be tried are all places
  pub star_never : TakesNoPart p (drop at name) → TakesNoPart (star ∷ p) name
  unfolding wants
  star_never h = no_place_left (star ∷ []) p name (λ k. go k (ltb k at) refl)
    where
      go : (k : ℕ) (t : Bool) → ltb k at ≡ t → takes p (drop k name) ≡ false
      go k true e = tried k (ltb-true k at e)
      go k false e =
          let same : at + (k - at) ≡ k = omega (arith, ltb-false) in
          rw (drop-drop, same) at (h (k - at))

  -- behind the name's end there is no place more
  pub star_over : length name < at → TakesNoPart (star ∷ p) name
  star_over h = star_never (λ k. rw (drop_of_length-le name {i = at} (omega arith), drop-nil) (rw (drop-length name) at (tried (length name) h)))
