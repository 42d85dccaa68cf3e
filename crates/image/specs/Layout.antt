-- A boot image, byte for byte.
use Rattle.std.specs.Prelude.{ℕ, ◌+◌, ◌*◌, ◌/◌, List, [], ◌∷◌, ◌++◌, length, replicate, ◌-◌, ◌%◌}
use Rattle.fields.specs.Number.{u32_at, le32}
use Rattle.fields.specs.Program.{Block, Program}

-- An image's numbers (entry point, sizes, addresses): the one that stands at a place, and the bytes that spell one.
unfoldable pub image_number : List ℕ → ℕ → ℕ
image_number s at = u32_at s at

unfoldable pub number_bytes : ℕ → List ℕ
number_bytes n = le32 n

-- how many zero bytes take a size up to the next multiple of four
unfoldable pub pad_of : ℕ → ℕ
pad_of size = (4 - size % 4) % 4

-- a size rounded up to a multiple of four
abbrev pub rounded_up : ℕ → ℕ
rounded_up size = (size + 3) / 4 * 4

-- the room of a block: three fields and its data area
unfoldable pub span_of : ℕ → ℕ
span_of size = 12 + rounded_up size

-- the data area of a block: its bytes, and the zero bytes behind them
unfoldable pub area_of : List ℕ → List ℕ
area_of bytes = bytes ++ replicate (pad_of (length bytes)) 0

-- size, load address, run address, and the data area; the size is the true one
unfoldable pub image_of_block : Block → List ℕ
image_of_block b =
    number_bytes (length b.bytes) ++ (number_bytes b.load ++ (number_bytes b.run ++ area_of b.bytes))

unfoldable pub image_of_blocks : List Block → List ℕ
image_of_blocks [] = []
image_of_blocks (b ∷ bs) = image_of_block b ++ image_of_blocks bs

-- entry point, the blocks in order, and four zero bytes as the end flag
unfoldable pub image_of : Program → List ℕ
image_of p = number_bytes p.entry ++ (image_of_blocks p.blocks ++ number_bytes 0)

unfoldable pub spans_of : List Block → ℕ
spans_of [] = 0
spans_of (b ∷ bs) = span_of (length b.bytes) + spans_of bs

-- 8, and for each block 12 and its size rounded up
abbrev pub length_of : List Block → ℕ
length_of bs = 8 + spans_of bs

unfoldable pub image_length : Program → ℕ
image_length p = length_of p.blocks
