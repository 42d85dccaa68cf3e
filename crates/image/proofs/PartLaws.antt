-- The parts of an image: its blocks number by number, none of which ends past 2 ^ 32. Crates above know the blocks by these laws.
use Prim.Native.Nat.{ℕ, zero, suc, ◌+◌, ◌^◌, ◌<◌, ◌≤◌}
use mathlib.Core.Path.{◌≡◌, refl, ap, ◌∙◌}
use mathlib.Core.List.{List, [], ◌∷◌, ◌++◌}
use native.Mathlib.Nat.{add-zero, zero-add}
use native.Mathlib.Numerals.{add-one}
use native.Mathlib.Omega.{arith}
use lib.ListN.{length, take, drop, get_or}
use lib.Seq.{take-suc, take-length, length-take-le, drop-cons}
use Rattle.fields.specs.Counting.{joined}
use Rattle.fields.specs.Program.{Block, Numbered, no_block, numbered}
use Rattle.image.specs.Reading.{size_here, load_here, block_here, blocks_in, image_source}
use Rattle.image.specs.Walking.{block_at, place_of, Framed}
use Rattle.image.proofs.TableLaws.{length_here}
use Rattle.image.proofs.WalkingLaws.{stands_at_lem}

-- A block by its number.
module _ (s : List ℕ) (i : ℕ) where
  pub block_at_is : block_at s i ≡ get_or (blocks_in s) i no_block
  unfolding block_at
  block_at_is = refl

  module _ (h : i < length (blocks_in s)) where
    -- it comes before those of higher numbers
    pub blocks_from : drop i (blocks_in s) ≡ block_at s i ∷ drop (i + 1) (blocks_in s)
    blocks_from = rw (block_at_is, add-one) (drop-cons (blocks_in s) i no_block h)

    pub block_ends : Framed s → (block_at s i).load + length (block_at s i).bytes ≤ 2 ^ 32
    unfolding block_here
    block_ends f =
        let st = stands_at_lem s f i h in
        let rest = drop (place_of s i) s in
        let load : (block_at s i).load ≡ load_here rest = ap (λ (x : Block). x.load) st.is in
        let size : length (block_at s i).bytes ≡ size_here rest = ap (λ (x : Block). length x.bytes) st.is ∙ length_here rest st.stands.whole in
        rw (load, size) st.stands.loads

-- the part of that number
unfoldable pub image_part : List ℕ → ℕ → List Numbered
image_part s i = record { number = i; block = block_at s i } ∷ []

pub part_is : (s : List ℕ) (i : ℕ) → image_part s i ≡ record { number = i; block = block_at s i } ∷ []
unfolding image_part
part_is s i = refl

-- All parts.

numbered-append : (k : ℕ) (bs cs : List Block) → numbered k (bs ++ cs) ≡ numbered k bs ++ numbered (k + length bs) cs
unfolding numbered
numbered-append k [] cs = rw add-zero
numbered-append k (b ∷ bs) cs =
    let e : k + 1 + length bs ≡ k + suc (length bs) = omega arith in
    rw (numbered-append (k + 1) bs cs, e)

numbered-take : (s : List ℕ) (n : ℕ) → n ≤ length (blocks_in s) → numbered 0 (take n (blocks_in s)) ≡ joined (image_part s) n
unfolding joined image_part
numbered-take s zero h = nothing_taken (blocks_in s)
  where
    nothing_taken : (bs : List Block) → numbered 0 (take 0 bs) ≡ []
    nothing_taken [] = unfold numbered in refl
    nothing_taken (b ∷ bs) = unfold numbered in refl
numbered-take s (suc n) h =
    let bs = blocks_in s in
    let l : length (take n bs) ≡ n = length-take-le n bs (omega arith) in
    rw (take-suc bs n no_block h, numbered-append 0 (take n bs) (get_or bs n no_block ∷ []), l, zero-add, numbered-take s n (omega arith), block_at_is s n)
    (unfold numbered in refl)

-- they are the source's
pub image_parts : (s : List ℕ) → (image_source s).parts ≡ joined (image_part s) (length (blocks_in s))
unfolding image_source
image_parts s = rw take-length at (numbered-take s (length (blocks_in s)) (omega arith))
