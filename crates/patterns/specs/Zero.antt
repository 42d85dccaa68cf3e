-- Bytes that a zero byte ends: a name, or a pattern.
use Rattle.std.specs.Prelude.{ℕ, Bool, false, cond, ◌||◌, List, [], ◌∷◌, eqb}

-- the bytes up to the first zero byte, or all of them where there is none
unfoldable pub up_to_zero : List ℕ → List ℕ
up_to_zero [] = []
up_to_zero (b ∷ bs) = cond (eqb b 0) [] (b ∷ up_to_zero bs)

unfoldable pub has_zero : List ℕ → Bool
has_zero [] = false
has_zero (b ∷ bs) = eqb b 0 || has_zero bs
