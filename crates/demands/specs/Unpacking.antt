-- The numbers taken out of a packed answer again, as the inline functions of include/scanboot.h take them.
use Rattle.std.specs.Prelude.{ℕ, ◌/◌, ◌%◌, ◌^◌, Bool, cond, List, [], ◌∷◌, eqb}
use Rattle.fields.specs.Answer.{Answer}

-- the number that stands in `width` bits from the bit `low` on
unfoldable pub bits_of : ℕ → ℕ → ℕ → ℕ
bits_of low width packed = packed / 2 ^ low % 2 ^ width

unfoldable pub code_of : ℕ → ℕ
code_of packed = bits_of 0 8 packed

abbrev is_done : ℕ → Bool
is_done packed = eqb (code_of packed) 0

unfoldable pub index_of : ℕ → ℕ
index_of packed = cond (is_done packed) 0 (bits_of 8 56 packed)

-- a figure, which is 0 on a refusal
unfoldable pub figure_of : ℕ → ℕ → ℕ → ℕ
figure_of low width packed = cond (is_done packed) (bits_of low width packed) 0

abbrev answer : ℕ → List ℕ → Answer
answer packed figures = record { code = code_of packed; index = index_of packed; figures = figures }

-- the image's length and the number of kept sections
unfoldable pub unpacked_conversion : ℕ → Answer
unpacked_conversion packed = answer packed (figure_of 8 32 packed ∷ figure_of 40 24 packed ∷ [])

-- the entry point and the block count
unfoldable pub unpacked_reading : ℕ → Answer
unpacked_reading packed = answer packed (figure_of 8 32 packed ∷ figure_of 40 24 packed ∷ [])

-- of the two numbers for a block: its size, load address, run address, and the offset of its raw bytes
unfoldable pub unpacked_asked : ℕ → ℕ → Answer
unpacked_asked packed addresses =
    answer packed
    (figure_of 36 28 packed ∷ bits_of 0 32 addresses ∷ bits_of 32 32 addresses ∷ figure_of 8 28 packed ∷ [])

-- the number of bytes placed
unfoldable pub unpacked_loading : ℕ → Answer
unpacked_loading packed = answer packed (figure_of 8 56 packed ∷ [])

unfoldable pub unpacked_verdict : ℕ → Answer
unpacked_verdict packed = answer packed []

-- the text's length
unfoldable pub unpacked_listing : ℕ → Answer
unpacked_listing packed = answer packed (figure_of 8 56 packed ∷ [])
