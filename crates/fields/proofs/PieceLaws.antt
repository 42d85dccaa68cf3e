-- Pieces of a list: a front part without its own front, and a front part that is asked to be longer than the list.
pub use Rattle.std.proofs.lemmas.List.{drop-take}
use Prim.Native.Nat.{ℕ, min}
use mathlib.Core.Path.{◌≡◌, refl}
use mathlib.Core.Bool.{Bool, true, false}
use mathlib.Core.List.{List}
use native.Mathlib.Omega.{arith}
use lib.Dec.{leb}
use lib.ListN.{length, take}
use lib.Seq.{take_all}
use borrow.Author.Tests.{leb-true, leb-false}

pub take_within : (n k : ℕ) (l : List ℕ) → k ≡ min n (length l) → take n l ≡ take k l
take_within n k l e = go (leb n (length l)) refl
  where
    go : (t : Bool) → leb n (length l) ≡ t → take n l ≡ take k l
    go true h =
        let le = leb-true n (length l) h in
        let q : k ≡ n = omega arith in
        rw q
    go false h =
        let gt = leb-false n (length l) h in
        rw (take_all n l (omega arith), take_all k l (omega arith))
