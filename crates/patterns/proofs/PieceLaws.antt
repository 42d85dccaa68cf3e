-- A piece of a pattern, which has no star: in front of other bytes, and at the places of a name. With a star behind it, it takes the names that begin with it.
use Prim.Native.Nat.{ℕ, suc, ◌+◌, ◌-◌, ◌<◌, ◌≤◌}
use mathlib.Core.Path.{◌≡◌, refl, sym, ◌∙◌}
use mathlib.Core.Bool.{Bool, true, false, cond, ◌&&◌, ◌||◌, and-false, true≢false}
use mathlib.Core.List.{List, [], ◌∷◌, ◌++◌}
use native.Mathlib.Omega.{arith}
use lib.Dec.{eqb, ltb}
use lib.ListN.{length, take, drop, get_or, length-drop}
use lib.Seq.{drop-cons, drop-drop, drop-length, split_at, length-take-le, take_all}
use borrow.Author.Rules.{part_to_end}
use borrow.Author.Count.{below_more}
use borrow.Author.Tests.{eqb-true, eqb-false, ltb-true, ltb-false}
use Rattle.std.specs.List.{list_all, zip}
use Rattle.std.specs.Prelude.{Option, None, Some, MatchOption}
use Rattle.fields.proofs.TestLaws.{neither_holds}
use Rattle.patterns.specs.Taking.{star, question, takes}
use Rattle.patterns.specs.Stars.{stars_in_front, has_star, first_place}
use Rattle.patterns.specs.Steps.{TakesNoPart}
use Rattle.patterns.proofs.TakingLaws.{no_character, other_rest, star_takes}
use Rattle.patterns.proofs.StarsLaws.{row_inside, stars_passed, own_length, place_end, not_earlier, no_later}
use Rattle.patterns.proofs.StepLaws.{Tried, star_never, star_over}

-- a star alone takes every name
star_alone : (name : List ℕ) → takes (star ∷ []) name ≡ true
unfolding takes
star_alone name = star_takes [] name (length name) (rw (drop-length name))

-- in front of other bytes the piece takes as many characters as it has bytes, and they the rest
piece_in_front : (f s name : List ℕ) → has_star f ≡ false → takes (f ++ s) name ≡ takes (f ++ (star ∷ [])) name && takes s (drop (length f) name)
unfolding takes has_star
piece_in_front [] s name none = rw (star_alone name)
piece_in_front (p ∷ ps) s [] none = rw (neither_holds (eqb p star) (has_star ps) none).0
piece_in_front (p ∷ ps) s (c ∷ cs) none =
    let n = neither_holds (eqb p star) (has_star ps) none in
    rw (n.0, piece_in_front ps s cs n.1) (go (eqb p question) (eqb p c))
  where
    go : (q e : Bool) → cond q (takes (ps ++ (star ∷ [])) cs && takes s (drop (length ps) cs)) (e && (takes (ps ++ (star ∷ [])) cs && takes s (drop (length ps) cs))) ≡ cond q (takes (ps ++ (star ∷ [])) cs) (e && takes (ps ++ (star ∷ [])) cs) && takes s (drop (length ps) cs)
    go true e = refl
    go false true = refl
    go false false = refl

-- it wants a character for each of its bytes
too_short : (f s name : List ℕ) → has_star f ≡ false → length name < length f → takes (f ++ s) name ≡ false
unfolding has_star
too_short [] s name none h = absurd (omega arith)
too_short (p ∷ ps) s [] none h = no_character p (ps ++ s) (eqb-false p star (neither_holds (eqb p star) (has_star ps) none).0)
too_short (p ∷ ps) s (c ∷ cs) none h =
    let n = neither_holds (eqb p star) (has_star ps) none in
    other_rest p (ps ++ s) (eqb-false p star n.0) c cs (too_short ps s cs n.1 (omega arith))

long_enough : (f s name : List ℕ) → has_star f ≡ false → takes (f ++ s) name ≡ true → length f ≤ length name
long_enough f s name none e = go (ltb (length name) (length f)) refl
  where
    go : (t : Bool) → ltb (length name) (length f) ≡ t → length f ≤ length name
    go true h = absurd (true≢false (sym e ∙ too_short f s name none (ltb-true (length name) (length f) h)))
    go false h = ltb-false (length name) (length f) h

-- from a place with too few characters left there is none more at which it stands
pub short_from : (f s name : List ℕ) (at : ℕ) → has_star f ≡ false → Tried (f ++ s) name at → length name - at < length f → (m : ℕ) → Tried (f ++ s) name m
short_from f s name at none tried short m k h = go (ltb k at) refl
  where
    go : (t : Bool) → ltb k at ≡ t → takes (f ++ s) (drop k name) ≡ false
    go true e = tried k (ltb-true k at e)
    go false e = too_short f s (drop k name) none (omega (arith, ltb-false k at e, length-drop k name))

-- a piece beside as many characters as it has bytes is the piece beside all of them
zip_taken : (f name : List ℕ) → zip f (take (length f) name) ≡ zip f name
zip_taken [] name = refl
zip_taken (p ∷ ps) [] = refl
zip_taken (p ∷ ps) (c ∷ cs) = rw (zip_taken ps cs) refl

-- byte by byte, where there are characters enough
pub piece_all : (f name : List ℕ) → has_star f ≡ false → length f ≤ length name → list_all (λ p. eqb p.0 question || eqb p.0 p.1) (zip f name) ≡ takes (f ++ (star ∷ [])) name
unfolding takes has_star
piece_all [] name none h = sym (star_alone name)
piece_all (p ∷ ps) [] none h = absurd (omega arith)
piece_all (p ∷ ps) (c ∷ cs) none h =
    let n = neither_holds (eqb p star) (has_star ps) none in
    rw (n.0, piece_all ps cs n.1 (omega arith)) (go (eqb p question) (eqb p c) (takes (ps ++ (star ∷ [])) cs))
  where
    go : (q e t : Bool) → (q || e) && t ≡ cond q t (e && t)
    go true e t = refl
    go false e t = refl

-- the same, beside as many characters as it has bytes
pub piece_taken : (f name : List ℕ) → has_star f ≡ false → length f ≤ length name → list_all (λ p. eqb p.0 question || eqb p.0 p.1) (zip f (take (length f) name)) ≡ takes (f ++ (star ∷ [])) name
piece_taken f name none h = rw (zip_taken f name) (piece_all f name none h)

-- at none of the places with characters enough, and so at none at all: an empty piece stands at the first
pub piece_tried : (f name : List ℕ) → has_star f ≡ false → Tried (f ++ (star ∷ [])) name (length name + 1 - length f) → TakesNoPart (f ++ (star ∷ [])) name
piece_tried [] name none tried k = absurd (true≢false (sym (star_alone name) ∙ tried 0 (omega arith)))
piece_tried (p ∷ ps) name none tried k = short_from (p ∷ ps) (star ∷ []) name (length name + 1 - suc (length ps)) none tried (omega arith) (suc k) k (omega arith)

-- what a search over those places answers
pub piece_place : (f name : List ℕ) (places : ℕ) → has_star f ≡ false → places ≡ length name + 1 - length f → (r : Option ℕ) → MatchOption r ((k : ℕ) → 0 ≤ k → k < places → takes (f ++ (star ∷ [])) (drop k name) ≡ false) (λ at. (0 ≤ at) × (at < places) × (takes (f ++ (star ∷ [])) (drop at name) ≡ true) × ((k : ℕ) → 0 ≤ k → k < at → takes (f ++ (star ∷ [])) (drop k name) ≡ false)) → MatchOption r (TakesNoPart (f ++ (star ∷ [])) name) (λ at. (at ≤ length name) × Tried (f ++ (star ∷ [])) name at × (takes (f ++ (star ∷ [])) (drop at name) ≡ true))
piece_place f name places none e None h = piece_tried f name none (λ k below. h k (omega arith) (omega arith))
piece_place f name places none e (Some at) h = (omega (arith, h.1), λ k below. h.3 k (omega arith) below, h.2)

-- Behind a star, where the piece stands at no place, or at none before this one.

refused : (f s name : List ℕ) (k : ℕ) → has_star f ≡ false → takes (f ++ (star ∷ [])) (drop k name) ≡ false → takes (f ++ s) (drop k name) ≡ false
refused f s name k none h = piece_in_front f s (drop k name) none ∙ rw h

piece_nowhere : (f s name : List ℕ) → has_star f ≡ false → TakesNoPart (f ++ (star ∷ [])) name → takes (star ∷ (f ++ s)) name ≡ false
piece_nowhere f s name none nowhere = star_never (f ++ s) name 0 (λ k h. absurd (omega arith)) (λ k. refused f s name k none (nowhere k)) 0

-- THE FIRST PLACE SERVES: where a star follows the piece, what the star may take from a later place it may take from this one.
pub piece_found : (f s name : List ℕ) (at : ℕ) → has_star f ≡ false → Tried (f ++ (star ∷ [])) name at → takes (f ++ (star ∷ [])) (drop at name) ≡ true → takes (star ∷ (f ++ (star ∷ s))) name ≡ takes (star ∷ s) (drop (at + length f) name)
piece_found f s name at none tried found = go (takes (star ∷ s) (drop (at + length f) name)) refl
  where
    here : takes (f ++ (star ∷ s)) (drop at name) ≡ takes (star ∷ s) (drop (at + length f) name)
    here = piece_in_front f (star ∷ s) (drop at name) none ∙ rw (found, drop-drop (length f) at name)

    later : takes (star ∷ s) (drop (at + length f) name) ≡ false → (k : ℕ) → takes (f ++ (star ∷ s)) (drop k (drop at name)) ≡ false
    later e k =
        let swap : at + k + length f ≡ at + length f + k = omega arith in
        let there : takes (star ∷ s) (drop (length f) (drop k (drop at name))) ≡ false = rw (drop-drop k at name, drop-drop (length f) (at + k) name, swap, ← drop-drop k (at + length f) name) (no_later s (drop (at + length f) name) e k) in
        piece_in_front f (star ∷ s) (drop k (drop at name)) none ∙ rw there (and-false (takes (f ++ (star ∷ [])) (drop k (drop at name))))

    go : (t : Bool) → takes (star ∷ s) (drop (at + length f) name) ≡ t → takes (star ∷ (f ++ (star ∷ s))) name ≡ t
    go true e = star_takes (f ++ (star ∷ s)) name at (here ∙ e)
    go false e = star_never (f ++ (star ∷ s)) name at (λ k h. refused f (star ∷ s) name k none (tried k h)) (later e) 0

-- what `&xs[at..]` is
abbrev pub tail : List ℕ → ℕ → List ℕ
tail xs at = take (length xs - at) (drop at xs)

tail_drop : (xs : List ℕ) (m n : ℕ) → tail (drop m xs) n ≡ drop (m + n) xs
tail_drop xs m n = part_to_end (drop m xs) n ∙ drop-drop n m xs

-- nothing is left behind a piece, or something is
module _ (behind : List ℕ) (empty : Bool) (size n : ℕ) (tested : empty ≡ eqb (length behind) 0) where
  pub none_behind : empty ≡ true → length behind + size ≡ n → n ≤ size
  none_behind e whole = omega (arith, eqb-true (length behind) 0 (sym tested ∙ e))

  pub some_behind : empty ≡ false → length behind + size ≡ n → size < n
  some_behind e whole = omega (arith, eqb-false (length behind) 0 (sym tested ∙ e))

-- the row of stars ends inside the pattern
pub row_within : (left : List ℕ) (size n : ℕ) → size < length left → get_or left size 0 ≡ star → n ≡ stars_in_front (drop size left) → (n ≤ length (drop size left)) × (length (tail (drop size left) n) < length left)
row_within left size n inside there row =
    let h = row_inside left size n inside there (rw part_to_end row) in
    rw (tail_drop left size n, length-drop size left, length-drop (size + n) left) (omega arith)

-- The piece up to a star of what is left of a pattern.

module _ (left name : List ℕ) (size : ℕ) (inside : size < length left) (there : get_or left size 0 ≡ star) (none : has_star (take size left) ≡ false) where
  split : left ≡ take size left ++ (star ∷ drop (suc size) left)
  split = rw there at (split_at left size 0 inside)

  pub left_nowhere : TakesNoPart (take size left ++ (star ∷ [])) name → TakesNoPart (star ∷ left) name
  left_nowhere nowhere = no_later left name (rw split (piece_nowhere (take size left) (star ∷ drop (suc size) left) name none nowhere))

  module _ (at : ℕ) (found : takes (take size left ++ (star ∷ [])) (drop at name) ≡ true) where
    pub found_within : at ≤ length name → at + size ≤ length name
    found_within h = omega (arith, long_enough (take size left) (star ∷ []) (drop at name) none found, length-take-le size left (omega arith), length-drop at name)

    -- at the first place at which it stands, and behind the row of stars that follows it
    pub next_same : Tried (take size left ++ (star ∷ [])) name at → (n : ℕ) → n ≡ stars_in_front (drop size left) → takes (star ∷ tail (drop size left) n) (tail name (at + size)) ≡ takes (star ∷ left) name
    next_same tried n row =
        let long : length (take size left) ≡ size = length-take-le size left (omega arith) in
        let same : takes (star ∷ left) name ≡ takes (drop size left) (drop (at + size) name) = rw (drop-cons left size 0 inside, there) (rw (← split, long) at (piece_found (take size left) (drop (suc size) left) name at none tried found)) in
        rw (part_to_end name (at + size), tail_drop left size n) (sym (same ∙ stars_passed left size n inside there (rw part_to_end row) (drop (at + size) name)))

-- What follows the last star can only be the name's last characters.
last_place : (q name : List ℕ) → has_star q ≡ false → takes q (drop (first_place q (length name)) name) ≡ false → takes (star ∷ q) name ≡ false
last_place q name none here = go (ltb (length name) (place + 1)) refl
  where
    place : ℕ
    place = first_place q (length name)

    tried : Tried q name (place + 1)
    tried = below_more _ _ (not_earlier q name) here

    go : (t : Bool) → ltb (length name) (place + 1) ≡ t → takes (star ∷ q) name ≡ false
    go true e = star_over q name (place + 1) tried (ltb-true (length name) (place + 1) e) 0
    go false e = star_never q name (place + 1) tried (λ k. own_length q (drop k (drop (place + 1) name)) none (λ same. omega (arith, ltb-false (length name) (place + 1) e, place_end q (length name) none, length-drop k (drop (place + 1) name), length-drop (place + 1) name))) 0

-- the same, as the star step knows it: no star stands among as many bytes as are left
pub last_refused : (q name : List ℕ) (size at : ℕ) → length q ≤ size → has_star (take size q) ≡ false → at ≡ first_place q (length name) → takes q (tail name at) ≡ false → takes (star ∷ q) name ≡ false
last_refused q name size at all none first here = last_place q name (rw (take_all size q all) at none) (rw first at (rw part_to_end at here))
