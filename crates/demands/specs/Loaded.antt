-- Blocks as both readers hand them on, and what a load makes of a window: the words of the theorems on placing.
use Rattle.std.specs.Prelude.{ℕ, ◌+◌, ◌-◌, ◌<◌, ◌≡◌, true, false, List, length, get_or}
use Rattle.fields.specs.Program.{Block, has}
use Rattle.loader.specs.Placing.{sizes_of}
use Rattle.loader.specs.Addresses.{is_written, Each, Disjoint, Within, count_below}

-- no address is one of two blocks', and no block is empty: what both readers see to
pub record Proper (bs : List Block) : Type 0 where
  pub disjoint : Disjoint bs
  pub filled : Each (λ b. 0 < length b.bytes) bs

-- each address of the block holds the block's byte
abbrev pub Holds : ℕ → List ℕ → Block → Type 0
Holds base window b = (a : ℕ) → has b a ≡ true → get_or window (a - base) 0 ≡ get_or b.bytes (a - b.load) 0

-- what a load that is not refused makes of a window
pub record Loaded (base : ℕ) (window after : List ℕ) (bs : List Block) : Type 0 where
  -- the blocks lie apart, and inside the window
  pub disjoint : Disjoint bs
  pub within : Within base (length window) bs
  -- every address inside a block holds that block's byte
  pub bytes : Each (Holds base after) bs
  -- every other byte is what it was
  pub others : (i : ℕ) → is_written bs (base + i) ≡ false → get_or after i 0 ≡ get_or window i 0
  pub long : length after ≡ length window
  -- the figure is the number of addresses written
  pub figure : sizes_of bs ≡ count_below (λ i. is_written bs (base + i)) (length window)
