-- Numbers in bytes: unsigned and little-endian, at every width.
use Rattle.std.specs.Prelude.{ℕ, zero, suc, ◌+◌, ◌*◌, ◌/◌, ◌%◌, ◌<◌, List, [], ◌∷◌, take, drop}

-- the number that a row of bytes spells, its lowest byte first
unfoldable pub number : List ℕ → ℕ
number [] = 0
number (b ∷ bs) = b + 256 * number bs

-- the bytes that spell a number in a field of the given width, its lowest byte first
unfoldable pub little : ℕ → ℕ → List ℕ
little zero n = []
little (suc width) n = n % 256 ∷ little width (n / 256)

-- the field of the given width that stands at a place
unfoldable pub field_at : ℕ → List ℕ → ℕ → List ℕ
field_at width s at = take width (drop at s)

unfoldable pub u16_at : List ℕ → ℕ → ℕ
u16_at s at = number (field_at 2 s at)

unfoldable pub u32_at : List ℕ → ℕ → ℕ
u32_at s at = number (field_at 4 s at)

unfoldable pub le16 : ℕ → List ℕ
le16 n = little 2 n

unfoldable pub le32 : ℕ → List ℕ
le32 n = little 4 n

-- each element is a byte
abbrev pub Bytes : List ℕ → Type 0
Bytes [] = Unit {0}
Bytes (b ∷ bs) = (b < 256) × Bytes bs
