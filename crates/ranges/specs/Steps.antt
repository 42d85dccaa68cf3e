-- What the functions of the search promise one another.
use Rattle.std.specs.Prelude.{ℕ, ◌+◌, ◌<◌, ◌≤◌, ◌≡◌, Bool, false, Option, List, length}
use Rattle.fields.specs.Counting.{found_below}
use Rattle.ranges.specs.Across.{meets_across}
use Rattle.ranges.specs.Cover.{Covers}
use Rattle.ranges.specs.Row.{size_from, load_from, next_from, place_of, load_of, size_of, Stands, meets_held_at}
use Rattle.ranges.specs.Search.{meets_earlier, meets_among, meets_together, Holds, NoneMeets}
use Rattle.ranges.specs.declared.lined.Ranges.{Ranges}
use Rattle.ranges.specs.declared.row.Cursor.{Cursor}
use Rattle.ranges.specs.declared.row.Range.{Range}
use Rattle.ranges.specs.declared.row.Row.{Row}

-- the cursor of the first range
pub record First (at : ℕ) (c : Cursor) : Type 0 where
  pub place : c.at ≡ at
  pub number : c.number ≡ 0

-- a cursor stands at a range; each one before it took up a byte at least
pub record AtRange (row : Row) (s : List ℕ) (c : Cursor) : Type 0 where
  pub short : length s ≤ 16777216
  pub stands : Stands row s c.at
  pub few : c.number ≤ c.at

-- what is read there
pub record RangeAt (row : Row) (s : List ℕ) (c : Cursor) (r : Range) : Type 0 where
  pub begins : r.span.first ≡ load_from row s c.at
  pub ends : r.span.last + 1 ≡ load_from row s c.at + size_from row s c.at
  pub next : r.next.at ≡ next_from row s c.at
  pub one_on : r.next.number ≡ c.number + 1

-- Of the ranges that are searched: the load address and the size of each by its number.
abbrev pub load_in : Ranges → ℕ → ℕ
load_in all = load_of all.row all.bytes.now all.at

abbrev pub size_in : Ranges → ℕ → ℕ
size_in all = size_of all.row all.bytes.now all.at

-- the first of them, so many as are told
pub record Fewer (all : Ranges) (n : ℕ) (r : Ranges) : Type 0 where
  pub bytes : r.bytes.now ≡ all.bytes.now
  pub row : r.row ≡ all.row
  pub at : r.at ≡ all.at
  pub count : r.count ≡ n

-- one of the n from number p on meets an earlier one
abbrev pub meets_in : Ranges → ℕ → ℕ → Bool
meets_in all p n = meets_among (load_in all) (size_in all) p n

-- the first that meets an earlier one
abbrev pub first_in : Ranges → Option ℕ
first_in all = found_below (meets_earlier (load_in all) (size_in all)) all.count

-- the first that shares an address with one of those held
abbrev pub held_in : Ranges → List ℕ → List ℕ → Option ℕ
held_in all firsts lasts = found_below (meets_held_at all.row all.bytes.now all.at firsts lasts) all.count

-- the first of others that shares an address with one of these
abbrev pub across_in : Ranges → Ranges → Option ℕ
across_in all others = found_below (meets_across all.row all.bytes.now all.at all.count others.row others.bytes.now others.at) others.count

-- a cursor stands where the range of its number begins, or behind the last
pub record Here (all : Ranges) (c : Cursor) : Type 0 where
  pub place : c.at ≡ place_of all.row all.bytes.now all.at c.number

-- a cursor stands at a range
pub record Ready (all : Ranges) (c : Cursor) : Type 0 where
  pub here : Here all c
  pub more : c.number < all.count

-- what is read at the range of number i, which is not empty, and where the next one begins
pub record RangeOf (all : Ranges) (i : ℕ) (r : Range) : Type 0 where
  pub begins : r.span.first ≡ load_in all i
  pub ends : r.span.last + 1 ≡ load_in all i + size_in all i
  pub real : r.span.first ≤ r.span.last
  pub next : Here all r.next
  pub one_on : r.next.number ≡ i + 1

-- a cursor stands at the first of n ranges
pub record ReadyFor (all : Ranges) (c : Cursor) (n : ℕ) : Type 0 where
  pub here : Here all c
  pub more : c.number + n ≤ all.count

-- n ranges from number p on are held, and a cursor stands behind them
pub record FewHeld (all : Ranges) (p n : ℕ) (firsts lasts : List ℕ) (r : Cursor) : Type 0 where
  pub holds : Holds (load_in all) (size_in all) p n firsts lasts
  pub here : Here all r
  pub counted : r.number ≡ p + n

-- whether one of the n ranges from number p on meets another of them; where none does, they are held
pub record Compared (all : Ranges) (p n : ℕ) (firsts lasts : List ℕ) (r : Bool) : Type 0 where
  pub meets : r ≡ meets_together (load_in all) (size_in all) p n
  pub holds : r ≡ false → Holds (load_in all) (size_in all) p n firsts lasts

-- no range before a number meets an earlier one
pub record Known (all : Ranges) (known : ℕ) : Type 0 where
  pub low : known ≤ all.count
  pub none : NoneMeets (load_in all) (size_in all) known

-- no range before the cursor does, and all of these are covered by a few
pub record Searched (all : Ranges) (firsts lasts : List ℕ) (c : Cursor) : Type 0 where
  pub here : Here all c
  pub known : Known all c.number
  pub covered : Covers (load_in all) (size_in all) c.number firsts lasts

-- the search goes on from a cursor, and the ranges before a number are known to meet no earlier one
pub record Going (all : Ranges) (firsts lasts : List ℕ) (c : Cursor) (known : ℕ) : Type 0 where
  pub searched : Searched all firsts lasts c
  pub known_too : Known all known

-- the first range is read
pub record Begun (all : Ranges) (r : Range) : Type 0 where
  pub some : 0 < all.count
  pub range : RangeOf all 0 r
