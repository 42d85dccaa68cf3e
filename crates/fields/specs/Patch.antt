-- A lent buffer with bytes written over a part of it.
use Rattle.std.specs.Prelude.{ℕ, suc, List, [], ◌∷◌, set}

-- xs with ys written over it from the place `at` on; what would lie past the end of xs is dropped
unfoldable pub patch : List ℕ → ℕ → List ℕ → List ℕ
patch xs at [] = xs
patch xs at (y ∷ ys) = patch (set xs at y) (suc at) ys
