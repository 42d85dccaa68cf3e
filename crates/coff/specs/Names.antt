-- The name of a section: it stands in the section's header, or in the string table, to which the header then has an offset.
use Rattle.std.specs.Prelude.{ℕ, ◌+◌, ◌*◌, Bool, not, cond, ◌&&◌, ◌||◌, List, [], length, take, drop, ltb, eqb}
use Rattle.fields.specs.Number.{u32_at}
use Rattle.patterns.specs.Zero.{up_to_zero, has_zero}
use Rattle.coff.specs.File.{symbols_begin, symbol_count, headers_begin}

-- the string table follows the symbols, which have 18 bytes each
unfoldable pub strings_begin : List ℕ → ℕ
strings_begin f = symbols_begin f + 18 * symbol_count f

-- it opens with its own size, of four bytes, which is counted in: the bytes of the file from there on, as many as it says.
-- Where the file ends inside the size, the table is empty.
unfoldable pub string_table : List ℕ → List ℕ
string_table f =
    cond (ltb (length f) (strings_begin f + 4)) []
    (take (u32_at f (strings_begin f)) (drop (strings_begin f) f))

-- of the header that begins at a place: four zero bytes, and four that are not, which are the offset
unfoldable pub is_in_table : List ℕ → ℕ → Bool
is_in_table f at = eqb (u32_at f at) 0 && not (eqb (u32_at f (at + 4)) 0)

unfoldable pub name_offset : List ℕ → ℕ → ℕ
name_offset f at = u32_at f (at + 4)

-- the table from there on
unfoldable pub from_offset : List ℕ → ℕ → List ℕ
from_offset f at = drop (name_offset f at) (string_table f)

-- the name, up to its zero byte; in a header it may fill all eight bytes
unfoldable pub name_at : List ℕ → ℕ → List ℕ
name_at f at = cond (is_in_table f at) (up_to_zero (from_offset f at)) (up_to_zero (take 8 (drop at f)))

-- it cannot be read: the offset points into the table's own size, or no zero byte ends the name inside the table
unfoldable pub is_unreadable : List ℕ → ℕ → Bool
is_unreadable f at = is_in_table f at && (ltb (name_offset f at) 4 || not (has_zero (from_offset f at)))

-- of a section by its number
unfoldable pub name_of : List ℕ → ℕ → List ℕ
name_of f i = name_at f (headers_begin f + 48 * i)

unfoldable pub has_unreadable_name : List ℕ → ℕ → Bool
has_unreadable_name f i = is_unreadable f (headers_begin f + 48 * i)
