-- Asking for one block of an image by its number: rule 30 after those of the image.
use Rattle.std.specs.Prelude.{ℕ, ◌+◌, List, [], ◌∷◌, length, take, get_or, leb}
use Rattle.fields.specs.Rules.{rule, Outcome, refused, done, unless, and_then, rules_first}
use Rattle.fields.specs.Options.{Options, option_rules}
use Rattle.fields.specs.Answer.{Answer, answer_of}
use Rattle.fields.specs.Program.{Block, blocks_of, no_block}
use Rattle.fields.specs.declared.Part.{Part}
use Rattle.image.specs.Layout.{spans_of}
use Rattle.image.specs.Order.{undone}
use Rattle.image.specs.Reading.{read_image}

-- a block, and where its raw bytes begin in the image
pub record Whereabouts : Type 0 where
  pub block : Block
  pub raw : ℕ

-- behind the entry point, the blocks before it, and its own three fields
unfoldable pub where_is : List Block → ℕ → Whereabouts
where_is bs k = record { block = get_or bs k no_block; raw = 4 + spans_of (take k bs) + 12 }

unfoldable pub asking : List ℕ → ℕ → Outcome Whereabouts
asking s k = and_then (read_image s) (λ src. unless (rule (leb (length (blocks_of src)) k) 30 0 ∷ []) (where_is (blocks_of src) k))

-- of an image in the order that is told, which is undone first: the offset is the same in every order
unfoldable pub asking_in : Options → List ℕ → ℕ → Outcome Whereabouts
asking_in o s k = rules_first (option_rules o) (asking (undone o.order s) k)

-- its numbers: size, load address, run address, and the offset of the raw bytes
abbrev pub asked_numbers : Outcome Whereabouts → Answer
asked_numbers = answer_of 4 (λ (w : Whereabouts). length w.block.bytes ∷ w.block.load ∷ w.block.run ∷ w.raw ∷ [])

-- what is told of a block: its size, its two addresses, and where its raw bytes begin
unfoldable pub told_of : Whereabouts → Part
told_of w = record { size = length w.block.bytes; load = record { 0 = w.block.load }; run = record { 0 = w.block.run }; raw = record { 0 = w.raw } }

-- the answer
unfoldable pub asked_of : Outcome Whereabouts → Outcome Part
asked_of (refused code index) = refused code index
asked_of (done w) = done (told_of w)

-- the numbers of each of its cases
unfoldable pub numbers_of_asked : Outcome Part → Answer
numbers_of_asked (refused code index) = record { code = code; index = index; figures = 0 ∷ 0 ∷ 0 ∷ 0 ∷ [] }
numbers_of_asked (done p) = record { code = 0; index = 0; figures = p.size ∷ p.load.0 ∷ p.run.0 ∷ p.raw.0 ∷ [] }
