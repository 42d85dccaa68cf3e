-- The records of a table by their number, as they are read where the table stands: in `t`, of which the table's bytes are the first after undoing.
use Rattle.std.specs.Prelude.{ℕ, ◌+◌, ◌*◌, ◌/◌, ◌<◌, ◌≤◌, Bool, List, [], ◌∷◌, length, take, drop}
use Rattle.fields.specs.Counting.{joined}
use Rattle.fields.specs.Program.{Block}
use Rattle.fields.specs.Turning.{turned_if}
use Rattle.ranges.specs.Row.{place_of, load_of, size_of, Lined}
use Rattle.ranges.specs.declared.row.Kind.TheVariants.{Records}
use Rattle.ranges.specs.declared.row.Row.{Row}

-- the row of a table's records
abbrev pub row_of : Bool → Row
row_of turned = record { kind = Records; turned = turned }

unfoldable pub record_at : Bool → List ℕ → ℕ → Block
record_at turned t i =
    record {
      load = load_of (row_of turned) t 0 i;
      run = load_of (row_of turned) t 0 i;
      bytes = take (size_of (row_of turned) t 0 i) (drop (place_of (row_of turned) t 0 i + 8) (turned_if turned t));
    }

-- the first n of them
unfoldable pub records_at : Bool → List ℕ → ℕ → List Block
records_at turned t n = joined (λ i. record_at turned t i ∷ []) n

-- so many records stand in `t`, each with its bytes and four more at least
pub record Recorded (turned : Bool) (t : List ℕ) (n : ℕ) : Type 0 where
  pub lined : Lined (row_of turned) t 0 n
  pub inside : (i : ℕ) → i < n → place_of (row_of turned) t 0 i + 8 + (size_of (row_of turned) t 0 i + 3) / 4 * 4 ≤ length t
