-- Ranges of addresses that are held in two lists, by the first address of each and by the last.
use Rattle.std.specs.Prelude.{ℕ, Bool, ◌&&◌, List, length, get_or, leb}
use Rattle.fields.specs.Counting.{any_below}

-- the one at k shares an address with the range from `first` to `last`
unfoldable pub meets_at : List ℕ → List ℕ → ℕ → ℕ → ℕ → Bool
meets_at firsts lasts first last k = leb (get_or firsts k 0) last && leb first (get_or lasts k 0)

-- one of them does
unfoldable pub meets_held : List ℕ → List ℕ → ℕ → ℕ → Bool
meets_held firsts lasts first last = any_below (meets_at firsts lasts first last) (length firsts)
