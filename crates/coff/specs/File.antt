-- A COFF file's headers: the file header of 22 bytes, the optional header of 28, and 48 bytes for each section.
use Rattle.std.specs.Prelude.{ℕ, ◌+◌, ◌*◌, cond, List, eqb}
use Rattle.fields.specs.Number.{u16_at, u32_at}

-- the file header's fields
unfoldable pub version : List ℕ → ℕ
version f = u16_at f 0

unfoldable pub section_count : List ℕ → ℕ
section_count f = u16_at f 2

-- the symbol table: where it begins, and how many entries it has
unfoldable pub symbols_begin : List ℕ → ℕ
symbols_begin f = u32_at f 8

unfoldable pub symbol_count : List ℕ → ℕ
symbol_count f = u32_at f 12

unfoldable pub optional_size : List ℕ → ℕ
optional_size f = u16_at f 16

unfoldable pub file_flags : List ℕ → ℕ
file_flags f = u16_at f 18

unfoldable pub target : List ℕ → ℕ
target f = u16_at f 20

-- the optional header's fields; it follows the file header
unfoldable pub magic : List ℕ → ℕ
magic f = u16_at f 22

-- without an optional header the entry point is 0
unfoldable pub entry_point : List ℕ → ℕ
entry_point f = cond (eqb (optional_size f) 0) 0 (u32_at f (22 + 16))

-- the section headers begin after both, and end where the raw data may begin
unfoldable pub headers_begin : List ℕ → ℕ
headers_begin f = 22 + optional_size f

unfoldable pub headers_end : List ℕ → ℕ
headers_end f = headers_begin f + 48 * section_count f

-- what is read of a section's header, but for its name
pub record Section : Type 0 where
  pub run : ℕ
  pub load : ℕ
  pub size : ℕ
  pub raw : ℕ
  pub flags : ℕ

-- the section header that begins at a place: in the file the run address comes first
unfoldable pub header_at : List ℕ → ℕ → Section
header_at f at =
    record {
      run = u32_at f (at + 8);
      load = u32_at f (at + 12);
      size = u32_at f (at + 16);
      raw = u32_at f (at + 20);
      flags = u32_at f (at + 40);
    }

-- a section by its number, counted from 0
unfoldable pub section_of : List ℕ → ℕ → Section
section_of f i = header_at f (headers_begin f + 48 * i)
