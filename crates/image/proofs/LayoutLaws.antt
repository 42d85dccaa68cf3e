-- The image's length is the formula's, and the spans of blocks in a row are added.
use Prim.Native.Nat.{ℕ, ◌+◌}
use mathlib.Core.Path.{◌≡◌, refl}
use mathlib.Core.List.{List, [], ◌∷◌, ◌++◌}
use native.Mathlib.Omega.{arith}
use lib.ListN.{length, length-append}
use Rattle.fields.specs.Program.{Block, Program}
use Rattle.image.specs.Layout.{pad_of, span_of, image_of_block, image_of_blocks, image_of, spans_of, image_length}
use Rattle.image.proofs.NumberLaws.{length-number}
use Rattle.image.proofs.AreaLaws.{rounded_is, length_area}

-- a block's room is its fields, its size and its padding
pub span_is : (size : ℕ) → span_of size ≡ 12 + size + pad_of size
unfolding span_of
span_is size = omega (arith, rounded_is size)

pub length_block : (b : Block) → length (image_of_block b) ≡ span_of (length b.bytes)
unfolding image_of_block span_of
length_block b = simp (length-append, length-number, length_area) (omega arith)

length_blocks : (bs : List Block) → length (image_of_blocks bs) ≡ spans_of bs
unfolding image_of_blocks spans_of
length_blocks [] = refl
length_blocks (b ∷ bs) = rw (length-append, length_block, length_blocks bs)

pub length_image : (p : Program) → length (image_of p) ≡ image_length p
unfolding image_of image_length
length_image p = simp (length-append, length-number, length_blocks) (omega arith)

pub spans_append : (bs cs : List Block) → spans_of (bs ++ cs) ≡ spans_of bs + spans_of cs
unfolding spans_of
spans_append [] cs = omega arith
spans_append (b ∷ bs) cs = rw (spans_append bs cs) (omega arith)

pub spans_nil : spans_of [] ≡ 0
unfolding spans_of
spans_nil = refl
