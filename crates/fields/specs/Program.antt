-- The one meaning of a COFF file and of a boot image: an entry point and blocks of bytes.
use Rattle.std.specs.Prelude.{ℕ, ◌+◌, Bool, false, ◌&&◌, ◌||◌, List, [], ◌∷◌, map, length, get_or, leb, ltb}
use Rattle.fields.specs.Counting.{any_below}

-- bytes that go to consecutive addresses from `load` on, and run from `run` on
pub record Block : Type 0 where
  pub load : ℕ
  pub run : ℕ
  pub bytes : List ℕ

pub record Program : Type 0 where
  pub entry : ℕ
  pub blocks : List Block

-- a block with the number by which it is counted: a section's among all sections, a block's among the blocks
pub record Numbered : Type 0 where
  pub number : ℕ
  pub block : Block

-- what a reader hands on: the entry point, and the blocks with their numbers
pub record Source : Type 0 where
  pub entry : ℕ
  pub parts : List Numbered

-- the blocks without their numbers
abbrev pub blocks_of_parts : List Numbered → List Block
blocks_of_parts parts = map (λ (p : Numbered). p.block) parts

unfoldable pub blocks_of : Source → List Block
blocks_of s = blocks_of_parts s.parts

unfoldable pub program_of : Source → Program
program_of s = record { entry = s.entry; blocks = blocks_of s }

-- blocks counted from a number on
unfoldable pub numbered : ℕ → List Block → List Numbered
numbered k [] = []
numbered k (b ∷ bs) = record { number = k; block = b } ∷ numbered (k + 1) bs

-- two ranges of addresses, neither of them empty, share an address
unfoldable pub share : ℕ → ℕ → ℕ → ℕ → Bool
share load size load' size' = ltb load (load' + size') && ltb load' (load + size)

-- load ranges of two blocks share an address
unfoldable pub meet : Block → Block → Bool
meet b c = share b.load (length b.bytes) c.load (length c.bytes)

abbrev pub no_block : Block
no_block = record { load = 0; run = 0; bytes = [] }

-- that of number j shares one with an earlier one
unfoldable pub meets_before : List Block → ℕ → Bool
meets_before bs j = any_below (λ i. meet (get_or bs i no_block) (get_or bs j no_block)) j

-- one of some blocks shares one with c
unfoldable pub meets_any : List Block → Block → Bool
meets_any [] c = false
meets_any (b ∷ bs) c = meet b c || meets_any bs c

-- the address is one of those that a block is loaded to
unfoldable pub has : Block → ℕ → Bool
has b a = leb b.load a && ltb a (b.load + length b.bytes)
