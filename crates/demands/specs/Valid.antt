-- A program within the rules: what an image can say, and no more.
use Rattle.std.specs.Prelude.{ℕ, ◌+◌, ◌^◌, ◌<◌, ◌≤◌, ◌≡◌, false, List, [], ◌∷◌, length, get_or}
use Rattle.fields.specs.Number.{Bytes}
use Rattle.fields.specs.Program.{Block, Program, Source, meet, no_block, numbered}
use Rattle.image.specs.Layout.{image_length}

-- a block that is not empty, is made of bytes, and ends in both its ranges at 2 ^ 32 or below
pub record Sound (b : Block) : Type 0 where
  pub real : 0 < length b.bytes
  pub raw : Bytes b.bytes
  pub loads : b.load + length b.bytes ≤ 2 ^ 32
  pub runs : b.run + length b.bytes ≤ 2 ^ 32

abbrev pub EachSound : List Block → Type 0
EachSound [] = Unit {0}
EachSound (b ∷ bs) = Sound b × EachSound bs

-- no two load ranges share an address
abbrev pub Apart : List Block → Type 0
Apart bs = (i j : ℕ) → i < j → j < length bs → meet (get_or bs i no_block) (get_or bs j no_block) ≡ false

-- the entry point fits its field, the blocks are 4096 at most, each is sound, no two meet, and the image is not too long
pub record Valid (p : Program) : Type 0 where
  pub enters : p.entry < 2 ^ 32
  pub few : length p.blocks ≤ 4096
  pub each : EachSound p.blocks
  pub apart : Apart p.blocks
  pub short : image_length p ≤ 16777216

-- a program as a reader hands it on: its blocks counted from 0
unfoldable pub counted : Program → Source
counted p = record { entry = p.entry; parts = numbered 0 p.blocks }
