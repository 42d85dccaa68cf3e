-- Two rows of ranges, one in `s` and one in `t`.
use Rattle.std.specs.Prelude.{ℕ, Bool, List}
use Rattle.fields.specs.Counting.{any_below}
use Rattle.fields.specs.Program.{share}
use Rattle.ranges.specs.Row.{load_of, size_of}
use Rattle.ranges.specs.declared.row.Row.{Row}

-- the range of number r of the row of `t` shares an address with one of the first n of the row of `s`
unfoldable pub meets_across : Row → List ℕ → ℕ → ℕ → Row → List ℕ → ℕ → ℕ → Bool
meets_across row s at n other t begin r =
    any_below (λ i. share (load_of row s at i) (size_of row s at i) (load_of other t begin r) (size_of other t begin r)) n
