-- Converting a source to an image in a lent output: rules 14 and 15 after those of the source.
use Rattle.std.specs.Prelude.{ℕ, ◌≡◌, List, [], ◌∷◌, ◌++◌, length, ltb}
use Rattle.fields.specs.Rules.{Rule, rule, Outcome, refused, done, unless, and_then, rules_first}
use Rattle.fields.specs.Options.{Options, option_rules}
use Rattle.fields.specs.Answer.{Answer, answer_of}
use Rattle.fields.specs.Program.{Program, Numbered, Source, blocks_of_parts, program_of}
use Rattle.fields.specs.Patch.{patch}
use Rattle.coff.specs.Reading.{read_coff}
use Rattle.image.specs.Layout.{image_of, length_of, image_length}
use Rattle.image.specs.Order.{written}
use Rattle.image.specs.declared.Figures.{Figures}

abbrev pub length_rules : Program → List Rule
length_rules p = rule (ltb 16777216 (image_length p)) 14 0 ∷ []

abbrev pub room_rules : Program → ℕ → List Rule
room_rules p room = length_rules p ++ (rule (ltb room (image_length p)) 15 0 ∷ [])

-- what is measured before a source's parts are written: how long their image is, whatever the entry point, and how many they are
abbrev pub Measured : List Numbered → ℕ → ℕ → Type 0
Measured parts size kept = (size ≡ length_of (blocks_of_parts parts)) × (kept ≡ length parts)

unfoldable pub writing : Outcome Source → ℕ → Outcome Program
writing source room = and_then source (λ s. unless (room_rules (program_of s) room) (program_of s))

-- only the length is asked for
unfoldable pub sizing : Outcome Source → Outcome Program
sizing source = and_then source (λ s. unless (length_rules (program_of s)) (program_of s))

-- a COFF file, and an output of `room` bytes
unfoldable pub converting : Options → List ℕ → ℕ → Outcome Program
converting o f room = rules_first (option_rules o) (writing (read_coff o f) room)

-- a COFF file that is only measured
unfoldable pub measuring : Options → List ℕ → Outcome Program
measuring o f = rules_first (option_rules o) (sizing (read_coff o f))

-- the numbers of either: the image's length and the number of kept sections
abbrev pub conversion_numbers : Outcome Program → Answer
conversion_numbers = answer_of 2 (λ (p : Program). image_length p ∷ length p.blocks ∷ [])

-- the answer
unfoldable pub conversion_of : Outcome Program → Outcome Figures
conversion_of (refused code index) = refused code index
conversion_of (done p) = done (record { length = image_length p; kept = length p.blocks })

-- the output afterwards: the image at its start, in the order that is asked for, or what it held
unfoldable pub output_after : ℕ → Outcome Program → List ℕ → List ℕ
output_after order (refused code index) out = out
output_after order (done p) out = patch out 0 (written order (image_of p))

-- the numbers of each of its cases
unfoldable pub numbers_of_conversion : Outcome Figures → Answer
numbers_of_conversion (refused code index) = record { code = code; index = index; figures = 0 ∷ 0 ∷ [] }
numbers_of_conversion (done made) = record { code = 0; index = 0; figures = made.length ∷ made.kept ∷ [] }
