-- Two rows of bytes pass the test exactly where they are equal, and it is the library's test of two slices by another name.
use Prim.Native.Nat.{ℕ}
use mathlib.Core.Path.{◌≡◌, refl, ap, sym, ◌∙◌}
use mathlib.Core.Bool.{Bool, true, ◌&&◌}
use mathlib.Core.List.{List, [], ◌∷◌}
use lib.Dec.{eqb}
use lib.Pointwise.{pointwise, bytes_decides}
use Rattle.std.specs.Prelude.{nat_eq}
use Rattle.fields.specs.Equal.{same_bytes}

pub pointwise_same : (xs ys : List ℕ) → pointwise nat_eq xs ys ≡ same_bytes xs ys
unfolding same_bytes
pointwise_same [] [] = refl
pointwise_same [] (y ∷ ys) = refl
pointwise_same (x ∷ xs) [] = refl
pointwise_same (x ∷ xs) (y ∷ ys) = ap (λ (t : Bool). eqb x y && t) (pointwise_same xs ys)

pub equal_same : (xs ys : List ℕ) → xs ≡ ys → same_bytes xs ys ≡ true
equal_same xs ys e = sym (pointwise_same xs ys) ∙ (bytes_decides xs ys).1 e

pub same_equal : (xs ys : List ℕ) → same_bytes xs ys ≡ true → xs ≡ ys
same_equal xs ys h = (bytes_decides xs ys).0 (pointwise_same xs ys ∙ h)
