-- The records of a table of initial values: each has a size, an address and that many bytes, which are to stand at the address.
use Rattle.std.specs.Prelude.{ℕ, zero, suc, ◌+◌, ◌*◌, ◌/◌, ◌^◌, Bool, true, false, not, ◌&&◌, ◌||◌, List, [], ◌∷◌, length, take, drop, ltb, eqb}
use Rattle.std.proofs.Math.Option.{Option, none, some}
use Rattle.fields.specs.Number.{u32_at}
use Rattle.fields.specs.Rules.{Rule, rule, Outcome, unless}
use Rattle.fields.specs.Program.{Block}

-- a record that begins where `rest` does: its size, its address, and its bytes behind these
unfoldable pub size_here : List ℕ → ℕ
size_here rest = u32_at rest 0

unfoldable pub address_here : List ℕ → ℕ
address_here rest = u32_at rest 4

-- a variable stands where it is loaded
unfoldable pub record_here : List ℕ → Block
record_here rest = record { load = address_here rest; run = address_here rest; bytes = take (size_here rest) (drop 8 rest) }

-- the room of a record: the next one begins at the next multiple of eight from the table's start
unfoldable pub room_of : ℕ → ℕ
room_of size = 8 + (size + 7) / 8 * 8

unfoldable pub after_record : List ℕ → List ℕ
after_record rest = drop (room_of (size_here rest)) rest

-- the table ends inside its bytes, or they would pass the last address
unfoldable pub is_bad : List ℕ → Bool
is_bad rest = ltb (length rest) (8 + size_here rest) || ltb (2 ^ 32) (address_here rest + size_here rest)

-- no record is bad, and a size of 0 ends them; what stands behind it is free, and so is the filler between records.
-- `turns` only bounds the recursion: a table has no more records than bytes.
unfoldable pub are_sound : ℕ → List ℕ → Bool
are_sound zero rest = false
are_sound (suc turns) rest =
    not (ltb (length rest) 4)
    && elim (eqb (size_here rest) 0) [ true ↦ true | false ↦ not (is_bad rest) && are_sound turns (after_record rest) ]

-- the records before that size of 0
unfoldable pub records_from : ℕ → List ℕ → List Block
records_from zero rest = []
records_from (suc turns) rest =
    elim (eqb (size_here rest) 0) [ true ↦ [] | false ↦ record_here rest ∷ records_from turns (after_record rest) ]

-- of a whole table
unfoldable pub is_readable : List ℕ → Bool
is_readable bytes = are_sound (length bytes) bytes

unfoldable pub records_in : List ℕ → List Block
records_in bytes = records_from (length bytes) bytes

-- rule 32, of a table where there is one
unfoldable pub record_rules : Option Block → List Rule
record_rules none = []
record_rules (some t) = rule (not (is_readable t.bytes)) 32 0 ∷ []

-- its records: none where there is no table
unfoldable pub records_of : Option Block → List Block
records_of none = []
records_of (some t) = records_in t.bytes

-- what reading a table gives: a refusal, or its records in order
unfoldable pub read_records : Option Block → Outcome (List Block)
read_records table = unless (record_rules table) (records_of table)
