-- The byte orders of an image. Order 1 has its numbers reversed in each four bytes (entry point, sizes and addresses), order 2 its data areas, order 3 both.
-- Everything that is said of an image elsewhere is said of it after undoing that.
use Rattle.std.specs.Prelude.{ℕ, zero, suc, Bool, true, false, cond, ◌||◌, List, ◌++◌, take, drop, eqb}
use Rattle.fields.specs.Number.{number, field_at}
use Rattle.fields.specs.Turning.{turned_place, turned_if}
use Rattle.image.specs.Layout.{rounded_up, span_of}

unfoldable pub turns_numbers : ℕ → Bool
turns_numbers order = eqb order 1 || eqb order 3

unfoldable pub turns_data : ℕ → Bool
turns_data order = eqb order 2 || eqb order 3

-- a row of numbers in an order, from order 0 or back to it
unfoldable pub numbers_in : ℕ → List ℕ → List ℕ
numbers_in order numbers = turned_if (turns_numbers order) numbers

-- a data area
unfoldable pub area_in : ℕ → List ℕ → List ℕ
area_in order area = turned_if (turns_data order) area

-- the number that stands at a place of an image in an order
unfoldable pub number_in : ℕ → List ℕ → ℕ → ℕ
number_in order s at = number (numbers_in order (field_at 4 s at))

-- The blocks that begin where `rest` does, each one's three fields and data area rewritten by the order, up to the end flag, which is its own reversal.
-- The size of a block is read in the order `from`, in which they stand. What is cut is rewritten as far as it goes.
-- `turns` only bounds the recursion: an image has no more blocks.
unfoldable pub rewritten : ℕ → ℕ → ℕ → List ℕ → List ℕ
rewritten from order zero rest = rest
rewritten from order (suc turns) rest =
    elim (eqb (number_in from rest 0) 0) [
      | true ↦ rest
      | false ↦
          numbers_in order (take 12 rest)
          ++ (area_in order (take (rounded_up (number_in from rest 0)) (drop 12 rest))
          ++ rewritten from order turns (drop (span_of (number_in from rest 0)) rest))
    ]

-- the entry point and the blocks behind it
abbrev wholly : ℕ → ℕ → List ℕ → List ℕ
wholly from order s = numbers_in order (take 4 s) ++ rewritten from order 4097 (drop 4 s)

-- the image of order 0 that an image in an order stands for
unfoldable pub undone : ℕ → List ℕ → List ℕ
undone order image = wholly order order image

-- the image in an order that stands for an image of order 0
unfoldable pub written : ℕ → List ℕ → List ℕ
written order image = wholly 0 order image

-- as if a block, or the end flag, began at a place: what stands from there on is undone
unfoldable pub undone_from : ℕ → ℕ → List ℕ → List ℕ
undone_from order place image = take place image ++ rewritten order order 4097 (drop place image)

-- where byte i of a data area stands in it
unfoldable pub place_in : ℕ → ℕ → ℕ
place_in order i = cond (turns_data order) (turned_place i) i

-- the data area of a block of so many bytes, which begins at the place `raw`, after undoing
unfoldable pub area_at : ℕ → List ℕ → ℕ → ℕ → List ℕ
area_at order s raw size = area_in order (take (rounded_up size) (drop raw s))
