-- When a pattern takes a name: all of it, or it does not take it. Both are bytes.
use Rattle.std.specs.Prelude.{ℕ, Bool, true, false, not, cond, ◌&&◌, ◌||◌, List, [], ◌∷◌, eqb}
use Rattle.fields.specs.Options.{is_no_pattern}

abbrev pub star : ℕ
star = 0x2A

abbrev pub question : ℕ
question = 0x3F

unfoldable pub takes : List ℕ → List ℕ → Bool
-- both are at their end
takes [] [] = true
takes [] (c ∷ cs) = false
-- where only the name has ended, a star takes nothing, and any other byte wants a character
takes (p ∷ ps) [] = eqb p star && takes ps []
takes (p ∷ ps) (c ∷ cs) =
    -- a star takes nothing, or takes one character and stays
    cond (eqb p star) (takes ps (c ∷ cs) || takes (p ∷ ps) cs)
    -- a question mark takes one character
    (cond (eqb p question) (takes ps cs)
    -- any other byte takes itself
    (eqb p c && takes ps cs))

-- one pattern by itself: where no call would accept it, it takes no name
unfoldable pub takes_alone : List ℕ → List ℕ → Bool
takes_alone p name = not (is_no_pattern p) && takes p name

-- one of the patterns takes it
unfoldable pub takes_any : List (List ℕ) → List ℕ → Bool
takes_any [] name = false
takes_any (p ∷ ps) name = takes p name || takes_any ps name
