-- What counting a table's records answers, and what it means for rule 32.
use Prim.Native.Nat.{ℕ}
use mathlib.Core.Path.{◌≡◌, refl}
use mathlib.Core.Bool.{Bool, true, false, cond}
use mathlib.Core.List.{List}
use mathlib.Core.Option.{Option, none, some}
use lib.ListN.{length}
use Rattle.fields.specs.Program.{Block}
use Rattle.fields.specs.Rules.{refused, done, unless, Silent}
use Rattle.fields.proofs.RuleLaws.{silent_done}
use borrow.Author.Tests.{not-false}
use Rattle.records.specs.Records.{is_readable, records_in, record_rules, records_of, read_records}
use Rattle.records.specs.Counting.{counted_of, counted_in}
use Rattle.std.proofs.Common.{Some, None}

-- of a table's bytes
pub counted_sound : (bytes : List ℕ) (n : ℕ) → counted_of bytes ≡ Some n → (is_readable bytes ≡ true) × (n ≡ length (records_in bytes))
unfolding counted_of
counted_sound bytes n h = go (is_readable bytes) refl h
  where
    go : (t : Bool) → is_readable bytes ≡ t → cond t (Some (length (records_in bytes))) None ≡ Some n → (is_readable bytes ≡ true) × (n ≡ length (records_in bytes))
    go true e k = (e, cc)
    go false e k = cc

pub counted_unsound : (bytes : List ℕ) → counted_of bytes ≡ None → is_readable bytes ≡ false
unfolding counted_of
counted_unsound bytes h = go (is_readable bytes) refl h
  where
    go : (t : Bool) → is_readable bytes ≡ t → cond t (Some (length (records_in bytes))) None ≡ None → is_readable bytes ≡ false
    go true e k = cc
    go false e k = e

-- of a table where there is one
pub table_silent : (table : Option Block) (n : ℕ) → counted_in table ≡ Some n → Silent (record_rules table)
unfolding counted_in record_rules
table_silent none n h = tt
table_silent (some b) n h = (rw (counted_sound b.bytes n h).0, tt)

pub table_records : (table : Option Block) (n : ℕ) → counted_in table ≡ Some n → n ≡ length (records_of table)
unfolding counted_in records_of
table_records none n h = cc
table_records (some b) n h = (counted_sound b.bytes n h).1

pub table_refused : {A : Type 0} (a : A) (table : Option Block) → counted_in table ≡ None → unless (record_rules table) a ≡ refused 32 0
unfolding counted_in record_rules unless
table_refused a none h = cc
table_refused a (some b) h = rw (counted_unsound b.bytes h)

-- a table whose rule is silent is read well
pub silent_readable : (b : Block) → Silent (record_rules (some b)) → is_readable b.bytes ≡ true
unfolding record_rules
silent_readable b h = not-false (is_readable b.bytes) h.0

pub read_sound : (table : Option Block) (n : ℕ) → counted_in table ≡ Some n → read_records table ≡ done (records_of table)
unfolding read_records
read_sound table n h = silent_done (record_rules table) (records_of table) (table_silent table n h)

pub read_unsound : (table : Option Block) → counted_in table ≡ None → read_records table ≡ refused 32 0
unfolding read_records
read_unsound table h = table_refused (records_of table) table h
