-- Patterns as a caller lends them: one row of bytes, in which each ends with a zero byte or with the row.
use Rattle.std.specs.Prelude.{ℕ, cond, List, [], ◌∷◌, eqb}
use Rattle.fields.specs.Options.{Options}

-- a byte in front of the first pattern, or alone where none follows
unfoldable pub in_front : ℕ → List (List ℕ) → List (List ℕ)
in_front b [] = (b ∷ []) ∷ []
in_front b (p ∷ ps) = (b ∷ p) ∷ ps

-- a zero byte ends a pattern, which may be empty; a row of no bytes has none
unfoldable pub patterns_in : List ℕ → List (List ℕ)
patterns_in [] = []
patterns_in (b ∷ bs) = cond (eqb b 0) ([] ∷ patterns_in bs) (in_front b (patterns_in bs))

-- what is asked for with such a row
unfoldable pub options_of : List ℕ → Options
options_of row = record { patterns = patterns_in row; order = 0 }
