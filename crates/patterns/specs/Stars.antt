-- A pattern's stars: how many it begins with, and from which place of a name it is worth a try.
use Rattle.std.specs.Prelude.{ℕ, suc, ◌-◌, Bool, false, cond, ◌||◌, List, [], ◌∷◌, length, eqb}
use Rattle.patterns.specs.Taking.{star}

unfoldable pub stars_in_front : List ℕ → ℕ
stars_in_front [] = 0
stars_in_front (p ∷ ps) = cond (eqb p star) (suc (stars_in_front ps)) 0

unfoldable pub has_star : List ℕ → Bool
has_star [] = false
has_star (p ∷ ps) = eqb p star || has_star ps

-- a pattern without a star takes as many characters as it has bytes, and so of n characters only the last ones
unfoldable pub first_place : List ℕ → ℕ → ℕ
first_place p n = cond (has_star p) 0 (n - length p)
