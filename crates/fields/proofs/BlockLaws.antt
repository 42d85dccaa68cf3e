-- Blocks in a row: whether one of them meets another block, and the numbers by which they are counted.
use Prim.Native.Nat.{ℕ, suc, ◌+◌}
use mathlib.Core.Path.{◌≡◌, refl, ap, sym, ◌∙◌}
use mathlib.Core.Bool.{Bool, false, ◌||◌, or-false, or_assoc}
use mathlib.Core.List.{List, [], ◌∷◌, ◌++◌}
use native.Mathlib.Nat.{add-zero}
use native.Mathlib.Omega.{arith}
use lib.ListN.{length, get_or}
use Rattle.fields.specs.Counting.{any_below}
use Rattle.fields.specs.Program.{Block, no_block, blocks_of_parts, numbered, meet, meets_any}
use Rattle.fields.proofs.CountingLaws.{any_first}

module _ (c : Block) where
  pub meets_none : meets_any [] c ≡ false
  unfolding meets_any
  meets_none = refl

  pub meets_one_lem : (b : Block) → meets_any (b ∷ []) c ≡ meet b c
  unfolding meets_any
  meets_one_lem b = or-false (meet b c)

  pub meets_append : (bs cs : List Block) → meets_any (bs ++ cs) c ≡ meets_any bs c || meets_any cs c
  unfolding meets_any
  meets_append [] cs = refl
  meets_append (b ∷ bs) cs =
      ap (λ (t : Bool). meet b c || t) (meets_append bs cs) ∙ sym (or_assoc (meet b c) (meets_any bs c) (meets_any cs c))

  -- one of them by its number
  pub meets_below : (bs : List Block) → meets_any bs c ≡ any_below (λ i. meet (get_or bs i no_block) c) (length bs)
  unfolding meets_any
  meets_below [] = unfold any_below in refl
  meets_below (b ∷ bs) =
      ap (λ (t : Bool). meet b c || t) (meets_below bs)
      ∙ sym (any_first (λ i. meet (get_or (b ∷ bs) i no_block) c) (length bs))

-- Blocks that are counted from a number on.

pub length-numbered : (k : ℕ) (bs : List Block) → length (numbered k bs) ≡ length bs
unfolding numbered
length-numbered k [] = refl
length-numbered k (b ∷ bs) = ap suc (length-numbered (k + 1) bs)

pub numbered_none : (k : ℕ) → numbered k [] ≡ []
unfolding numbered
numbered_none k = refl

pub numbered_one : (k : ℕ) (b : Block) → numbered k (b ∷ []) ≡ record { number = k; block = b } ∷ []
unfolding numbered
numbered_one k b = refl

pub numbered-append : (k : ℕ) (bs cs : List Block) → numbered k (bs ++ cs) ≡ numbered k bs ++ numbered (k + length bs) cs
unfolding numbered
numbered-append k [] cs = rw add-zero
numbered-append k (b ∷ bs) cs =
    let e : k + 1 + length bs ≡ k + suc (length bs) = omega arith in
    rw (numbered-append (k + 1) bs cs, e)

pub numbered_blocks : (k : ℕ) (bs : List Block) → blocks_of_parts (numbered k bs) ≡ bs
unfolding numbered
numbered_blocks k [] = refl
numbered_blocks k (b ∷ bs) = ap (λ (cs : List Block). b ∷ cs) (numbered_blocks (k + 1) bs)
