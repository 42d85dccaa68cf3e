-- When two readers' results mean the same, and when two loads do the same: the words of the theorems on the check.
use Rattle.std.specs.Prelude.{ℕ, ◌≡◌, List}
use Rattle.fields.specs.Rules.{Outcome, refused, done}
use Rattle.fields.specs.Program.{Block, Source, program_of}
use Rattle.loader.specs.Placing.{placed, sizes_of}
use Rattle.compare.specs.Same.{Received, nothing, byte, Same}

-- both are read, and as the same program
pub record SameMeaning (file image : Outcome Source) : Type 0 where
  pub this : Source
  pub that : Source
  pub reads_this : file ≡ done this
  pub reads_that : image ≡ done that
  pub same : Same (program_of this) (program_of that)

-- what an address holds that held `was` before
unfoldable pub held : Received → ℕ → ℕ
held nothing was = was
held (byte v r) was = v

-- two loads into one window are both refused, by the same rule, or neither is, and they leave the same memory and place as many bytes
pub data EqualLoads (base : ℕ) (window : List ℕ) : Outcome (List Block) → Outcome (List Block) → Type 0 where
  both_refused : {code index index' : ℕ} → EqualLoads base window (refused code index) (refused code index')
  both_done : {bs cs : List Block} → placed base window bs ≡ placed base window cs → sizes_of bs ≡ sizes_of cs → EqualLoads base window (done bs) (done cs)
