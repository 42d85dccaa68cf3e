-- What the reader's own functions promise one another.
use Rattle.std.specs.Prelude.{ℕ, ◌+◌, ◌≡◌, List, drop}
use Rattle.fields.specs.Rules.{Outcome, unless}
use Rattle.ranges.specs.declared.row.Cursor.{Cursor}
use Rattle.ranges.specs.declared.row.Kind.TheVariants.{Blocks}
use Rattle.ranges.specs.declared.row.Row.{Row}
use Rattle.image.specs.Layout.{span_of}
use Rattle.image.specs.Order.{turns_numbers, number_in}
use Rattle.image.specs.Reading.{size_here, load_here, run_here, table_rules, image_source, reading_of}
use Rattle.image.specs.declared.Contents.{Contents}
use Rattle.image.specs.declared.walking.BlockHeader.{BlockHeader}

-- the row of ranges that the blocks of an image in an order are
abbrev pub row_in : ℕ → Row
row_in order = record { kind = Blocks; turned = turns_numbers order }

-- what is read at a cursor, whether or not a whole block stands there
pub record Fields (s : List ℕ) (c : Cursor) (b : BlockHeader) : Type 0 where
  pub size : b.part.size ≡ size_here (drop c.at s)
  pub load : b.part.load.0 ≡ load_here (drop c.at s)
  pub run : b.part.run.0 ≡ run_here (drop c.at s)
  pub raw : b.part.raw.0 ≡ c.at + 12
  pub next : b.next.at ≡ c.at + span_of b.part.size
  pub one_on : b.next.number ≡ c.number + 1

-- .. as they stand in an image in an order
pub record FieldsIn (order : ℕ) (s : List ℕ) (c : Cursor) (b : BlockHeader) : Type 0 where
  pub size : b.part.size ≡ number_in order s c.at
  pub load : b.part.load.0 ≡ number_in order s (c.at + 4)
  pub run : b.part.run.0 ≡ number_in order s (c.at + 8)
  pub raw : b.part.raw.0 ≡ c.at + 12
  pub next : b.next.at ≡ c.at + span_of b.part.size
  pub one_on : b.next.number ≡ c.number + 1

-- the answer by the rules of the table of blocks alone
unfoldable pub table_reading : List ℕ → Outcome Contents
table_reading s = reading_of (unless (table_rules 4097 0 (drop 4 s)) (image_source s))
