-- What a pattern takes, byte by byte and star by star; and why the third answer ends every star before it.
use Prim.Native.Nat.{ℕ, zero, suc, ◌+◌}
use mathlib.Core.Path.{◌≡◌, refl}
use mathlib.Core.Bool.{Bool, true, false, cond, ◌&&◌, ◌||◌, and-false, or-true}
use mathlib.Core.List.{List, [], ◌∷◌, ◌++◌}
use native.Mathlib.Omega.{arith}
use lib.Dec.{eqb}
use lib.ListN.{drop}
use lib.Seq.{drop-nil, drop-drop}
use borrow.Author.Tests.{eqb-false, ne_eqb}
use Rattle.fields.proofs.TestLaws.{neither_holds}
use Rattle.patterns.specs.Steps.{TakesNoPart}
use Rattle.patterns.specs.Taking.{star, question, takes}

-- One byte that is no star.

module _ (p : ℕ) (ps : List ℕ) (plain : p ≡ star → ⊥) where
  pub no_character : takes (p ∷ ps) [] ≡ false
  unfolding takes
  no_character = rw (ne_eqb p star plain)

  pub one_character : (c : ℕ) (cs : List ℕ) → eqb p question || eqb p c ≡ true → takes (p ∷ ps) (c ∷ cs) ≡ takes ps cs
  unfolding takes
  one_character c cs e = rw (ne_eqb p star plain) (go (eqb p question) (eqb p c) e)
    where
      go : (q s : Bool) → q || s ≡ true → cond q (takes ps cs) (s && takes ps cs) ≡ takes ps cs
      go true s e = refl
      go false s e = rw e

  pub other_character : (c : ℕ) (cs : List ℕ) → eqb p question || eqb p c ≡ false → takes (p ∷ ps) (c ∷ cs) ≡ false
  unfolding takes
  other_character c cs e =
      let n = neither_holds (eqb p question) (eqb p c) e in
      rw (ne_eqb p star plain, n.0, n.1)

  pub other_rest : (c : ℕ) (cs : List ℕ) → takes ps cs ≡ false → takes (p ∷ ps) (c ∷ cs) ≡ false
  unfolding takes
  other_rest c cs e = rw (ne_eqb p star plain, e, and-false (eqb p c)) (go (eqb p question))
    where
      go : (q : Bool) → cond q false false ≡ false
      go true = refl
      go false = refl

-- A star takes a name where what follows it takes a later part.
pub star_takes : (p name : List ℕ) (k : ℕ) → takes p (drop k name) ≡ true → takes (star ∷ p) name ≡ true
unfolding takes
star_takes p [] k h = rw drop-nil at h
star_takes p (c ∷ cs) zero h = rw h
star_takes p (c ∷ cs) (suc k) h = rw (star_takes p cs k h) (or-true (takes p (c ∷ cs)))

-- The characters that a pattern takes at least: one for each byte that is no star.
unfoldable pub wants : List ℕ → ℕ
wants [] = 0
wants (p ∷ ps) = cond (eqb p star) (wants ps) (suc (wants ps))

-- from the next character on
never_next : (p : List ℕ) (m c : ℕ) (cs : List ℕ) → TakesNoPart p (drop m (c ∷ cs)) → TakesNoPart p (drop m cs)
never_next p m c cs h k =
    let e : m + suc k ≡ suc (m + k) = omega arith in
    rw drop-drop (rw (drop-drop, e) at (h (suc k)))

not_here : (front p name : List ℕ) → TakesNoPart p (drop (wants front) name) → takes (front ++ p) name ≡ false
unfolding takes wants
not_here [] p name h = h 0
not_here (f ∷ fs) p [] h =
    rw (not_here fs p [] (λ k. rw (drop-nil, drop-nil) (rw (drop-nil, drop-nil) at (h k)))) (and-false (eqb f star))
not_here (f ∷ fs) p (c ∷ cs) h =
    go (eqb f star) refl (λ n. not_here fs p (c ∷ cs) n) (not_here (f ∷ fs) p cs (never_next p (wants (f ∷ fs)) c cs h)) (λ n. not_here fs p cs n)
  where
    go : (t : Bool) → eqb f star ≡ t → (TakesNoPart p (drop (wants fs) (c ∷ cs)) → takes (fs ++ p) (c ∷ cs) ≡ false) → takes (f ∷ (fs ++ p)) cs ≡ false → (TakesNoPart p (drop (wants fs) cs) → takes (fs ++ p) cs ≡ false) → takes (f ∷ (fs ++ p)) (c ∷ cs) ≡ false
    go true e ends stays goes = rw (e, ends (rw e at h), stays)
    go false e ends stays goes = other_rest f (fs ++ p) (eqb-false f star e) c cs (goes (rw e at h))

-- THE THIRD ANSWER ends every star before it. Where the end of a pattern takes no part of a name from a place on, the whole pattern takes none that begins as many characters before that place as the bytes in front want, or later: no star in front has a place left to try.
pub no_place_left : (front p name : List ℕ) → TakesNoPart p (drop (wants front) name) → TakesNoPart (front ++ p) name
no_place_left front p name h k = not_here front p (drop k name) from_there
  where
    from_there : TakesNoPart p (drop (wants front) (drop k name))
    from_there j =
        let e : k + (wants front + j) ≡ wants front + (k + j) = omega arith in
        rw (drop-drop j _ _, drop-drop _ k name, e) (rw drop-drop at (h (k + j)))
