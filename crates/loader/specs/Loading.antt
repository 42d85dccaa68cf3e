-- A load: the rules of its options where it has any, rule 28, then the rules of its input, then 29; nothing is written before all are asked.
use Rattle.std.specs.Prelude.{ℕ, List, [], ◌∷◌, map}
use Rattle.fields.specs.Rules.{Rule, rule, Outcome, refused, done, unless, and_then, rules_first}
use Rattle.fields.specs.Options.{Options, option_rules}
use Rattle.fields.specs.Answer.{Answer, answer_of}
use Rattle.fields.specs.Program.{Block, Numbered, Source, blocks_of}
use Rattle.coff.specs.Reading.{read_coff}
use Rattle.image.specs.Reading.{read_image_in}
use Rattle.loader.specs.Placing.{is_no_window, is_outside, placed, sizes_of}

abbrev pub window_rules : ℕ → ℕ → List Rule
window_rules base room = rule (is_no_window base room) 28 0 ∷ []

-- the first block or kept section that is not wholly inside the window
unfoldable pub outside_rules : ℕ → ℕ → List Numbered → List Rule
outside_rules base room parts = map (λ (p : Numbered). rule (is_outside base room p.block) 29 p.number) parts

-- of any reader's result, into the window of `room` bytes from `base` on
unfoldable pub loading : Outcome Source → ℕ → ℕ → Outcome (List Block)
loading source base room =
    rules_first (window_rules base room)
    (and_then source (λ s. unless (outside_rules base room s.parts) (blocks_of s)))

-- the rules of the options come before that of the window
unfoldable pub loading_image : Options → List ℕ → ℕ → ℕ → Outcome (List Block)
loading_image o image base room = rules_first (option_rules o) (loading (read_image_in o image) base room)

unfoldable pub loading_coff : Options → List ℕ → ℕ → ℕ → Outcome (List Block)
loading_coff o file base room = rules_first (option_rules o) (loading (read_coff o file) base room)

-- its numbers: the number of bytes placed
abbrev pub loading_numbers : Outcome (List Block) → Answer
loading_numbers = answer_of 1 (λ (bs : List Block). sizes_of bs ∷ [])

-- the answer
unfoldable pub loading_of : Outcome (List Block) → Outcome ℕ
loading_of (refused code index) = refused code index
loading_of (done bs) = done (sizes_of bs)

-- the window afterwards
unfoldable pub window_after : Outcome (List Block) → ℕ → List ℕ → List ℕ
window_after (refused code index) base window = window
window_after (done bs) base window = placed base window bs

-- the numbers of each of its cases
unfoldable pub numbers_of_loading : Outcome ℕ → Answer
numbers_of_loading (refused code index) = record { code = code; index = index; figures = 0 ∷ [] }
numbers_of_loading (done n) = record { code = 0; index = 0; figures = n ∷ [] }
