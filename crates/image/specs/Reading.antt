-- What an image means: a refusal by rules 20 to 27, or its entry point and its blocks in order.
use Rattle.std.specs.Prelude.{ℕ, zero, suc, ◌+◌, ◌^◌, Bool, true, false, not, ◌&&◌, List, [], ◌∷◌, ◌++◌, length, take, drop, leb, ltb, eqb}
use Rattle.fields.specs.Counting.{joined}
use Rattle.fields.specs.Rules.{Rule, rule, Outcome, refused, done, unless, rules_first}
use Rattle.fields.specs.Options.{Options, option_rules}
use Rattle.fields.specs.Answer.{Answer, answer_of}
use Rattle.fields.specs.Program.{Block, Source, numbered, meets_before}
use Rattle.image.specs.Layout.{image_number, rounded_up, span_of}
use Rattle.image.specs.Order.{undone}
use Rattle.image.specs.declared.Contents.{Contents}

unfoldable pub zeros : List ℕ → Bool
zeros [] = true
zeros (b ∷ bs) = eqb b 0 && zeros bs

-- the entry point is the first number of an image
unfoldable pub entry_in : List ℕ → ℕ
entry_in s = image_number s 0

-- a block that begins where `rest` does: in the image the load address comes first
unfoldable pub size_here : List ℕ → ℕ
size_here rest = image_number rest 0

unfoldable pub load_here : List ℕ → ℕ
load_here rest = image_number rest 4

unfoldable pub run_here : List ℕ → ℕ
run_here rest = image_number rest 8

-- its data area, of which the first bytes, as many as its size says, are its own and the others are padding
unfoldable pub area_here : List ℕ → List ℕ
area_here rest = take (rounded_up (size_here rest)) (drop 12 rest)

unfoldable pub bytes_here : List ℕ → List ℕ
bytes_here rest = take (size_here rest) (area_here rest)

unfoldable pub padding_here : List ℕ → List ℕ
padding_here rest = drop (size_here rest) (area_here rest)

unfoldable pub block_here : List ℕ → Block
block_here rest = record { load = load_here rest; run = run_here rest; bytes = bytes_here rest }

-- what follows it
unfoldable pub after_block : List ℕ → List ℕ
after_block rest = drop (span_of (size_here rest)) rest

-- of one block that begins with k whole blocks before it
abbrev pub block_rules : ℕ → List ℕ → List Rule
block_rules k rest =
    rule (leb 4096 k) 22 4096
    ∷ rule (ltb (length rest) (span_of (size_here rest))) 21 k
    ∷ rule (ltb (2 ^ 32) (load_here rest + size_here rest)) 23 k
    ∷ rule (ltb (2 ^ 32) (run_here rest + size_here rest)) 24 k
    ∷ rule (not (zeros (padding_here rest))) 25 k
    ∷ []

-- of the end flag, with k whole blocks before it
abbrev pub end_rules : ℕ → List ℕ → List Rule
end_rules k rest = rule (ltb 4 (length rest)) 26 k ∷ []

-- of all that follows the entry point, block by block: a size field of 0 is the end flag.
-- `turns` only bounds the recursion: with 4097 of them rule 22 holds before they run out.
unfoldable pub table_rules : ℕ → ℕ → List ℕ → List Rule
table_rules zero k rest = []
table_rules (suc turns) k rest =
    rule (ltb (length rest) 4) 21 k
    ∷ elim (eqb (size_here rest) 0) [
      | true ↦ end_rules k rest
      | false ↦ block_rules k rest ++ table_rules turns (k + 1) (after_block rest)
    ]

-- the blocks before the end flag
unfoldable pub table_blocks : ℕ → List ℕ → List Block
table_blocks zero rest = []
table_blocks (suc turns) rest =
    elim (eqb (size_here rest) 0) [ true ↦ [] | false ↦ block_here rest ∷ table_blocks turns (after_block rest) ]

unfoldable pub blocks_in : List ℕ → List Block
blocks_in s = table_blocks 4097 (drop 4 s)

abbrev pub meeting_rules : List Block → ℕ → List Rule
meeting_rules bs j = rule (meets_before bs j) 27 j ∷ []

-- the whole table: the image's length and entry point; block by block; then the later block of each pair that meets
unfoldable pub image_rules : List ℕ → List Rule
image_rules s =
    rule (ltb 16777216 (length s)) 20 0
    ∷ rule (ltb (length s) 4) 21 0
    ∷ (table_rules 4097 0 (drop 4 s) ++ joined (meeting_rules (blocks_in s)) (length (blocks_in s)))

-- blocks are counted from 0
unfoldable pub image_source : List ℕ → Source
image_source s = record { entry = entry_in s; parts = numbered 0 (blocks_in s) }

unfoldable pub read_image : List ℕ → Outcome Source
read_image s = unless (image_rules s) (image_source s)

-- an image in the order that is told: it is undone first
abbrev pub read_image_in : Options → List ℕ → Outcome Source
read_image_in o s = read_image (undone o.order s)

-- as a call of its own, which asks the rules of its options first
unfoldable pub reading_in : Options → List ℕ → Outcome Source
reading_in o s = rules_first (option_rules o) (read_image_in o s)

-- its numbers: the entry point and the block count
abbrev pub reading_numbers : Outcome Source → Answer
reading_numbers = answer_of 2 (λ (s : Source). s.entry ∷ length s.parts ∷ [])

-- the answer
unfoldable pub reading_of : Outcome Source → Outcome Contents
reading_of (refused code index) = refused code index
reading_of (done s) = done (record { entry = s.entry; blocks = length s.parts })

-- the numbers of each of its cases
unfoldable pub numbers_of_reading : Outcome Contents → Answer
numbers_of_reading (refused code index) = record { code = code; index = index; figures = 0 ∷ 0 ∷ [] }
numbers_of_reading (done c) = record { code = 0; index = 0; figures = c.entry ∷ c.blocks ∷ [] }
