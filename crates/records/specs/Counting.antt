-- What counting a table's records answers: how many they are, or nothing where one is unsound.
use Rattle.std.specs.Prelude.{ℕ, cond, Option, Some, None, List, length}
use Rattle.std.proofs.Math.Option as table
use Rattle.fields.specs.Program.{Block}
use Rattle.records.specs.Records.{is_readable, records_in}

unfoldable pub counted_of : List ℕ → Option ℕ
counted_of bytes = cond (is_readable bytes) (Some (length (records_in bytes))) None

-- where there is no table, no record is unsound
unfoldable pub counted_in : table.Option Block → Option ℕ
counted_in table.none = Some 0
counted_in (table.some t) = counted_of t.bytes
