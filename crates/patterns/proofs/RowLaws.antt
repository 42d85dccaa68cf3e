-- A row holds the pattern up to its first zero byte and, behind that, the others.
use Prim.Native.Nat.{ℕ, suc, ◌+◌, ◌-◌, ◌<◌, ◌≤◌, min}
use mathlib.Core.Path.{◌≡◌, refl, ap, ◌∙◌}
use mathlib.Core.Bool.{Bool, true, false, cond, ◌||◌, or-true}
use mathlib.Core.List.{List, [], ◌∷◌}
use native.Mathlib.Nat.{zero-add}
use native.Mathlib.Omega.{arith}
use lib.Dec.{eqb, ltb}
use lib.ListN.{length, take, drop, get_or, length-drop, drop_of_length-le}
use lib.Seq.{drop-cons, drop-drop}
use borrow.Author.Rules.{part_to_end}
use borrow.Author.Tests.{ltb-true, ltb-false, lt-ltb, le-ltb}
use Rattle.fields.specs.Options.{is_no_length, is_no_pattern, any_is_no_pattern, are_refused}
use Rattle.patterns.specs.Zero.{up_to_zero}
use Rattle.patterns.specs.Taking.{takes, takes_alone, takes_any}
use Rattle.patterns.specs.Row.{in_front, patterns_in}
use Rattle.patterns.proofs.ZeroLaws.{take_up_to_zero, up_to_zero_short}
use Rattle.std.specs.List.{list_any}

pub first_pattern : (b : ℕ) (bs : List ℕ) → patterns_in (b ∷ bs) ≡ up_to_zero (b ∷ bs) ∷ patterns_in (drop (length (up_to_zero (b ∷ bs))) bs)
unfolding patterns_in in_front up_to_zero
first_pattern b [] = go (eqb b 0)
  where
    go : (t : Bool) → cond t ([] ∷ []) ((b ∷ []) ∷ []) ≡ cond t [] (b ∷ []) ∷ patterns_in (drop (length (cond t [] (b ∷ []))) [])
    go true = refl
    go false = refl
first_pattern b (d ∷ ds) = go (eqb b 0) (first_pattern d ds)
  where
    go : (t : Bool) → patterns_in (d ∷ ds) ≡ up_to_zero (d ∷ ds) ∷ patterns_in (drop (length (up_to_zero (d ∷ ds))) ds) → cond t ([] ∷ patterns_in (d ∷ ds)) (in_front b (patterns_in (d ∷ ds))) ≡ cond t [] (b ∷ up_to_zero (d ∷ ds)) ∷ patterns_in (drop (length (cond t [] (b ∷ up_to_zero (d ∷ ds)))) (d ∷ ds))
    go true e = refl
    go false e = ap (in_front b) e

pub none_behind : (row : List ℕ) (at : ℕ) → length row ≤ at → patterns_in (drop at row) ≡ []
unfolding patterns_in
none_behind row at behind = rw (drop_of_length-le row behind) refl

-- At a place inside, where the bytes up to a zero byte were counted in what is left.
module _ (row : List ℕ) (at size : ℕ) (inside : at < length row) (counted : size ≡ length (up_to_zero (take (length row - at) (drop at row)))) where
  size_is : size ≡ length (up_to_zero (drop at row))
  size_is = counted ∙ rw (part_to_end row at)

  pub size_inside : at + size ≤ length row
  size_inside = omega (arith, size_is, up_to_zero_short (drop at row), length-drop at row)

  pattern_here : take (at + size - at) (drop at row) ≡ up_to_zero (drop at row)
  pattern_here =
      let e : at + size - at ≡ length (up_to_zero (drop at row)) = omega (arith, size_is) in
      rw e (take_up_to_zero (drop at row))

  pub patterns_here : patterns_in (drop at row) ≡ take (at + size - at) (drop at row) ∷ patterns_in (drop (at + size + 1) row)
  patterns_here =
      let e : at + size + 1 ≡ suc at + size = omega arith in
      rw (pattern_here, e, ← drop-drop size (suc at) row, size_is, drop-cons row at 0 inside) (first_pattern (get_or row at 0) (drop (suc at) row))

pub any_taken : (ps : List (List ℕ)) (name : List ℕ) → takes_any ps name ≡ list_any (λ p. takes p name) ps
unfolding takes_any
any_taken [] name = refl
any_taken (p ∷ ps) name = rw (any_taken ps name) refl

-- there are no more of them than bytes
pub patterns_few : (row : List ℕ) → length (patterns_in row) ≤ length row
unfolding patterns_in in_front
patterns_few [] = omega arith
patterns_few (b ∷ bs) = go (eqb b 0) (patterns_in bs) (patterns_few bs)
  where
    go : (t : Bool) (ps : List (List ℕ)) → length ps ≤ length bs → length (cond t ([] ∷ ps) (in_front b ps)) ≤ suc (length bs)
    go true ps h = omega arith
    go false [] h = omega arith
    go false (p ∷ ps) h = omega arith

-- Rule 17 of patterns before which others went.
unfoldable pub refused_after : ℕ → List (List ℕ) → Bool
refused_after count ps = ltb 16 (count + length ps) || any_is_no_pattern ps

pub refused_after_none : (ps : List (List ℕ)) → are_refused ps ≡ refused_after 0 ps
unfolding are_refused refused_after
refused_after_none ps = rw zero-add

pub refused_length : (count : ℕ) (p : List ℕ) (ps : List (List ℕ)) → is_no_length (length p) ≡ true → refused_after count (p ∷ ps) ≡ true
unfolding refused_after any_is_no_pattern is_no_pattern
refused_length count p ps e = rw e (or-true (ltb 16 (count + suc (length ps))))

pub refused_later : (count : ℕ) (p : List ℕ) (ps : List (List ℕ)) → is_no_length (length p) ≡ false → refused_after count (p ∷ ps) ≡ refused_after (count + 1) ps
unfolding refused_after any_is_no_pattern is_no_pattern
refused_later count p ps e =
    let more : count + suc (length ps) ≡ count + 1 + length ps = omega arith in
    rw (more, e) refl

pub refused_behind : (count : ℕ) → count ≤ 16 → refused_after count [] ≡ false
unfolding refused_after any_is_no_pattern
refused_behind count h = rw (le-ltb 16 (count + 0) (omega arith)) refl

-- behind sixteen, or as many as the row has bytes, one that begins is one too many
pub refused_too_many : (all row : List ℕ) (at count : ℕ) → count ≡ min (length all) 16 → length (patterns_in all) ≡ count + length (patterns_in (drop at row)) → refused_after count (patterns_in (drop at row)) ≡ ltb at (length row)
unfolding refused_after
refused_too_many all row at count c whole = go (ltb at (length row)) refl
  where
    more : (rest : ℕ) → length (patterns_in all) ≡ count + suc rest → 16 < count + suc rest
    more rest e = omega (arith, c, patterns_few all)

    go : (t : Bool) → ltb at (length row) ≡ t → refused_after count (patterns_in (drop at row)) ≡ t
    go true e =
        let bs = drop (suc at) row in
        let b = get_or row at 0 in
        let rest = length (patterns_in (drop (length (up_to_zero (b ∷ bs))) bs)) in
        let here : patterns_in (drop at row) ≡ up_to_zero (b ∷ bs) ∷ patterns_in (drop (length (up_to_zero (b ∷ bs))) bs) = rw (drop-cons row at 0 (ltb-true _ _ e)) (first_pattern b bs) in
        rw (here, lt-ltb 16 (count + suc rest) (more rest (rw here at whole))) refl
    go false e = rw (none_behind row at (ltb-false _ _ e)) (refused_behind count (omega (arith, c)))

-- One pattern by itself, by its length.
module _ (p name : List ℕ) where
  pub alone_not : is_no_length (length p) ≡ true → false ≡ takes_alone p name
  unfolding takes_alone is_no_pattern
  alone_not h = rw h

  pub alone_takes : is_no_length (length p) ≡ false → takes_alone p name ≡ takes p name
  unfolding takes_alone is_no_pattern
  alone_takes h = rw h
