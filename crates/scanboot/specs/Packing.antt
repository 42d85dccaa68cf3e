-- An answer's numbers as the one 64-bit number that C gets. Bits 0 to 7 are the code. Above them stands the index of a refusal, whose figures are 0,
-- or stand the figures of a success, whose index is 0, each at its own bits.
use Rattle.std.specs.Prelude.{ℕ, ◌+◌, ◌*◌, ◌^◌, get_or}
use Rattle.fields.specs.Answer.{Answer}

unfoldable pub packed_refusal : ℕ → ℕ → ℕ
packed_refusal code index = code + 2 ^ 8 * index

-- a figure, by its place in the order of naming
abbrev figure : Answer → ℕ → ℕ
figure a k = get_or a.figures k 0

-- the image's length from bit 8 on, the number of kept sections from bit 40 on
unfoldable pub packed_conversion : Answer → ℕ
packed_conversion a = packed_refusal a.code a.index + 2 ^ 8 * figure a 0 + 2 ^ 40 * figure a 1

-- the entry point from bit 8 on, the block count from bit 40 on
unfoldable pub packed_reading : Answer → ℕ
packed_reading a = packed_refusal a.code a.index + 2 ^ 8 * figure a 0 + 2 ^ 40 * figure a 1

-- of size, load address, run address and offset of the raw bytes: the offset from bit 8 on, the size from bit 36 on
unfoldable pub packed_asked : Answer → ℕ
packed_asked a = packed_refusal a.code a.index + 2 ^ 8 * figure a 3 + 2 ^ 36 * figure a 0

-- a second number for a block: its load address from bit 0 on, its run address from bit 32 on
unfoldable pub packed_addresses : Answer → ℕ
packed_addresses a = figure a 1 + 2 ^ 32 * figure a 2

-- the number of bytes placed from bit 8 on
unfoldable pub packed_loading : Answer → ℕ
packed_loading a = packed_refusal a.code a.index + 2 ^ 8 * figure a 0

unfoldable pub packed_verdict : Answer → ℕ
packed_verdict a = packed_refusal a.code a.index

-- the text's length from bit 8 on
unfoldable pub packed_listing : Answer → ℕ
packed_listing a = packed_refusal a.code a.index + 2 ^ 8 * figure a 0
