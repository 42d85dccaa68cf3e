-- What a user may rely on: a pattern that only spells takes what it spells and nothing else, and a star alone takes every name.
use Prim.Native.Nat.{ℕ, ◌+◌}
use mathlib.Core.Path.{◌≡◌, refl, sym, ◌∙◌}
use mathlib.Core.Bool.{Bool, true, false, or-true, true≢false}
use mathlib.Core.List.{List, [], ◌∷◌, ◌++◌, append_assoc}
use lib.Dec.{eqb}
use lib.ListN.{length}
use lib.Seq.{drop-length, drop-drop, drop-append_seam}
use borrow.Author.Tests.{eqb-true, eqb-false, eq-eqb, ne_eqb}
use Rattle.fields.specs.Options.{plain}
use Rattle.patterns.specs.Taking.{star, question, takes}
use Rattle.patterns.specs.Row.{patterns_in, options_of}
use Rattle.patterns.specs.Steps.{TakesNoPart}
use Rattle.patterns.proofs.TakingLaws.{no_character, one_character, other_character, star_takes, wants, no_place_left}
use Rattle.demands.specs.Spelled.{Spelled}

pub takes_what_it_spells : (p name : List ℕ) → Spelled p → takes p name ≡ true → p ≡ name
unfolding takes
takes_what_it_spells [] [] s e = refl
takes_what_it_spells [] (c ∷ cs) s e = absurd (true≢false (sym e))
takes_what_it_spells (p ∷ ps) [] s e = absurd (true≢false (sym e ∙ no_character p ps s.0))
takes_what_it_spells (p ∷ ps) (c ∷ cs) s e = go (eqb p c) refl (λ r. takes_what_it_spells ps cs s.2 r)
  where
    go : (t : Bool) → eqb p c ≡ t → (takes ps cs ≡ true → ps ≡ cs) → p ∷ ps ≡ c ∷ cs
    go true same rest =
        let r = rest (sym (one_character p ps s.0 c cs (rw (ne_eqb p question s.1, same))) ∙ e) in
        rw (eqb-true p c same, r)
    go false differs rest =
        absurd (true≢false (sym e ∙ other_character p ps s.0 c cs (rw (ne_eqb p question s.1, differs))))

itself_more : (p : ℕ) (ps : List ℕ) → takes ps ps ≡ true → takes (p ∷ ps) (p ∷ ps) ≡ true
itself_more p ps rest = go (eqb p star) refl
  where
    go : (t : Bool) → eqb p star ≡ t → takes (p ∷ ps) (p ∷ ps) ≡ true
    go true e = rw (eqb-true p star e) (star_takes ps (star ∷ ps) 1 rest)
    go false e = one_character p ps (eqb-false p star e) p ps (rw (eq-eqb p p refl) (or-true (eqb p question))) ∙ rest

-- of every pattern, with stars and question marks too
pub takes_itself : (p : List ℕ) → takes p p ≡ true
unfolding takes
takes_itself [] = refl
takes_itself (p ∷ ps) = itself_more p ps (takes_itself ps)

-- what follows a star takes: the star takes with anything before it
pub star_takes_before : (front p name : List ℕ) → takes p name ≡ true → takes (star ∷ p) (front ++ name) ≡ true
star_takes_before front p name e = star_takes p (front ++ name) (length front) (rw (drop-append_seam front name) e)

pub star_takes_every : (name : List ℕ) → takes (star ∷ []) name ≡ true
unfolding takes
star_takes_every name = star_takes [] name (length name) (rw (drop-length name))

-- where what follows a star takes no part of a name, no pattern that ends in that star and it takes one: stars before it cannot do better
pub no_earlier_star : (front p name : List ℕ) → TakesNoPart p name → TakesNoPart (front ++ (star ∷ p)) name
no_earlier_star front p name h =
    let before = front ++ (star ∷ []) in
    rw append_assoc at (no_place_left before p name (λ k. rw drop-drop (h (wants before + k))))

-- a row without bytes asks for nothing
pub nothing_asked : options_of [] ≡ plain
unfolding options_of patterns_in
nothing_asked = refl
