-- A program put together again from an image and the numbers that calls on it answer, in the order that they are told: the words of the theorems on asking for blocks.
use Rattle.std.specs.Prelude.{ℕ, ◌+◌, ◌<◌, ◌≤◌, ◌≡◌, List, [], ◌∷◌, length, take, drop, get_or}
use Rattle.fields.specs.Answer.{Answer}
use Rattle.fields.specs.Counting.{joined}
use Rattle.fields.specs.Options.{Options}
use Rattle.fields.specs.Program.{Block, Program}
use Rattle.image.specs.Order.{undone, area_at}
use Rattle.demands.specs.Unpacking.{unpacked_reading, unpacked_asked}
use Rattle.demands.specs.Promises.{block_numbers, GivesReading, GivesBlock, GivesAddresses}

-- asking for the number k tells of the block b: its size, its addresses, and the offset at which its bytes stand in the image after undoing, all of them
pub record Told (o : Options) (image : List ℕ) (k : ℕ) (b : Block) : Type 0 where
  pub offset : ℕ
  pub numbers : block_numbers o image k ≡ record { code = 0; index = 0; figures = length b.bytes ∷ b.load ∷ b.run ∷ offset ∷ [] }
  pub within : offset + length b.bytes ≤ length image
  pub stands : take (length b.bytes) (drop offset (undone o.order image)) ≡ b.bytes
  -- in the image as it is they are those of the data area that begins at the offset, which stands reversed in each four where the order says so
  pub area : take (length b.bytes) (area_at o.order image offset (length b.bytes)) ≡ b.bytes

-- a figure, by its place in the order of naming
abbrev pub figure : Answer → ℕ → ℕ
figure a k = get_or a.figures k 0

-- a block of which size, load address, run address and offset are told: its bytes are taken from the image
unfoldable pub block_by : List ℕ → Answer → Block
block_by image asked =
    record { load = figure asked 1; run = figure asked 2; bytes = take (figure asked 0) (drop (figure asked 3) image) }

-- the entry point, and a block for each number below the block count
unfoldable pub program_by : List ℕ → Answer → (ℕ → Answer) → Program
program_by image reading asked =
    record { entry = figure reading 0; blocks = joined (λ k. block_by image (asked k) ∷ []) (figure reading 1) }

-- a caller's numbers: of the image, and two of each block below the count that it read there
pub record Called (o : Options) (image : List ℕ) (reading : ℕ) (block addresses : ℕ → ℕ) : Type 0 where
  pub read : GivesReading o image reading
  pub asked : (k : ℕ) → k < figure (unpacked_reading reading) 1 → GivesBlock o image k (block k) × GivesAddresses o image k (addresses k)

-- the program that these numbers and the image's bytes make, after undoing
abbrev pub program_of_calls : Options → List ℕ → ℕ → (ℕ → ℕ) → (ℕ → ℕ) → Program
program_of_calls o image reading block addresses =
    program_by (undone o.order image) (unpacked_reading reading) (λ k. unpacked_asked (block k) (addresses k))
