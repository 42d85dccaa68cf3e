-- Going through the blocks of an image by a cursor: a block by its number, where a cursor stands, what is read there, and what may be relied on where the image is not refused.
use Rattle.std.specs.Prelude.{ℕ, ◌+◌, ◌^◌, ◌<◌, ◌≤◌, ◌≡◌, List, ◌⊎◌, length, take, drop, get_or}
use Rattle.fields.specs.Rules.{done, unless}
use Rattle.fields.specs.Program.{Block, no_block}
use Rattle.image.specs.Layout.{rounded_up, spans_of}
use Rattle.image.specs.Order.{undone, area_at}
use Rattle.image.specs.Reading.{table_rules, entry_in, blocks_in, image_source, read_image}
use Rattle.ranges.specs.declared.row.Cursor.{Cursor}
use Rattle.image.specs.declared.walking.BlockHeader.{BlockHeader}

-- a block by its number, counted from 0
unfoldable pub block_at : List ℕ → ℕ → Block
block_at s i = get_or (blocks_in s) i no_block

-- where it begins: behind the entry point and the blocks before it
unfoldable pub place_of : List ℕ → ℕ → ℕ
place_of s i = 4 + spans_of (take i (blocks_in s))

-- an image that rules 20 to 26 do not refuse
pub record Framed (s : List ℕ) : Type 0 where
  pub short : length s ≤ 16777216
  pub begun : 4 ≤ length s
  pub sound : unless (table_rules 4097 0 (drop 4 s)) (image_source s) ≡ done (image_source s)

-- a cursor stands where the block of its number begins, or behind the last block
pub record Here (s : List ℕ) (c : Cursor) : Type 0 where
  pub place : c.at ≡ place_of s c.number

pub record First (c : Cursor) : Type 0 where
  pub place : c.at ≡ 4
  pub number : c.number ≡ 0

-- a cursor stands at a block
pub record Ready (s : List ℕ) (c : Cursor) : Type 0 where
  pub framed : Framed s
  pub here : Here s c
  pub more : c.number < length (blocks_in s)

-- what is read at a cursor is the block of its number
pub record Tells (s : List ℕ) (c : Cursor) (b : BlockHeader) : Type 0 where
  pub size : b.part.size ≡ length (block_at s c.number).bytes
  pub load : b.part.load.0 ≡ (block_at s c.number).load
  pub run : b.part.run.0 ≡ (block_at s c.number).run
  pub raw : b.part.raw.0 ≡ c.at + 12
  pub next : Here s b.next
  pub one_on : b.next.number ≡ c.number + 1
  -- its bytes stand in the image, between its fields and the next block
  pub bytes : (block_at s c.number).bytes ≡ take b.part.size (drop b.part.raw.0 s)
  pub behind : b.part.raw.0 + b.part.size ≤ b.next.at
  pub within : b.next.at ≤ length s
  -- it is not empty, and both its ranges end at 2 ^ 32 or below
  pub real : 0 < b.part.size
  pub loads : b.part.load.0 + b.part.size ≤ 2 ^ 32
  pub runs : b.part.run.0 + b.part.size ≤ 2 ^ 32

-- the same of an image in an order, whose blocks are those after undoing: the bytes are those of the data area that stands there
pub record TellsIn (order : ℕ) (s : List ℕ) (c : Cursor) (b : BlockHeader) : Type 0 where
  pub tells : Tells (undone order s) c b
  pub area : (block_at (undone order s) c.number).bytes ≡ take b.part.size (area_at order s b.part.raw.0 b.part.size)
  pub ends : b.next.at ≡ b.part.raw.0 + rounded_up b.part.size
  pub whole : b.part.raw.0 + rounded_up b.part.size ≤ length s

-- the load range of one block ends before that of the other begins
abbrev pub Apart : Block → Block → Type 0
Apart b c = (b.load + length b.bytes ≤ c.load) ⊎ (c.load + length c.bytes ≤ b.load)

-- an image that is read, with its entry point and its block count
pub record Accepted (s : List ℕ) (entry count : ℕ) : Type 0 where
  pub framed : Framed s
  pub read : read_image s ≡ done (image_source s)
  pub entry_is : entry ≡ entry_in s
  pub count_is : count ≡ length (blocks_in s)
  pub few : count ≤ 4096
  pub short : length s ≤ 16777216
  pub apart : (i j : ℕ) → i < j → j < count → Apart (block_at s i) (block_at s j)
