-- A row of ranges in bytes. A range begins with two numbers of four bytes, its size and its load address; behind its fields stand its bytes, and then the next one.
use Rattle.std.specs.Prelude.{ℕ, zero, suc, ◌+◌, ◌-◌, ◌*◌, ◌/◌, ◌^◌, ◌<◌, ◌≤◌, Bool, List, length}
use Rattle.fields.specs.Number.{number, field_at}
use Rattle.fields.specs.Turning.{turned_if}
use Rattle.ranges.specs.Held.{meets_held}
use Rattle.ranges.specs.declared.row.Kind.{Kind}
use Rattle.ranges.specs.declared.row.Kind.TheVariants.{Blocks, Records}
use Rattle.ranges.specs.declared.row.Row.{Row}

-- the number that stands at a place
unfoldable pub number_of : Row → List ℕ → ℕ → ℕ
number_of row s at = number (turned_if row.turned (field_at 4 s at))

-- the size of the range that begins at a place
unfoldable pub size_from : Row → List ℕ → ℕ → ℕ
size_from row s place = number_of row s place

unfoldable pub load_from : Row → List ℕ → ℕ → ℕ
load_from row s place = number_of row s (place + 4)

-- the room of a range. A block of an image has 12 bytes of fields, and its bytes up to a multiple of four; a record of a table has 8, and its bytes up to a
-- multiple of eight.
abbrev pub room_in : Kind → ℕ → ℕ
room_in Blocks size = 12 + (size + 3) / 4 * 4
room_in Records size = 8 + (size + 7) / 8 * 8

unfoldable pub room_of : Row → ℕ → ℕ
room_of row size = room_in row.kind size

-- where the next one begins
unfoldable pub next_from : Row → List ℕ → ℕ → ℕ
next_from row s place = place + room_of row (size_from row s place)

-- where the range of number i begins, the first at the place `at`
unfoldable pub place_of : Row → List ℕ → ℕ → ℕ → ℕ
place_of row s at zero = at
place_of row s at (suc i) = next_from row s (place_of row s at i)

-- the load address and the size of the range of number i
unfoldable pub load_of : Row → List ℕ → ℕ → ℕ → ℕ
load_of row s at i = load_from row s (place_of row s at i)

unfoldable pub size_of : Row → List ℕ → ℕ → ℕ → ℕ
size_of row s at i = size_from row s (place_of row s at i)

-- at a place a range begins: its two numbers stand there, it is not empty, and it ends at 2 ^ 32 or below
pub record Stands (row : Row) (s : List ℕ) (place : ℕ) : Type 0 where
  pub within : place + 8 ≤ length s
  pub real : 0 < size_from row s place
  pub loads : load_from row s place + size_from row s place ≤ 2 ^ 32

-- so many ranges stand one behind the other, the first at the place `at`, in bytes that are no more than an image or a file may have
pub record Lined (row : Row) (s : List ℕ) (at count : ℕ) : Type 0 where
  pub short : length s ≤ 16777216
  pub each : (i : ℕ) → i < count → Stands row s (place_of row s at i)

-- the range of number i shares an address with one of those held
unfoldable pub meets_held_at : Row → List ℕ → ℕ → List ℕ → List ℕ → ℕ → Bool
meets_held_at row s at firsts lasts i = meets_held firsts lasts (load_of row s at i) (load_of row s at i + size_of row s at i - 1)
