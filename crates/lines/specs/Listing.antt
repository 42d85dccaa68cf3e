-- Listing a COFF file into a lent buffer: rule 15 after those of the file.
use Rattle.std.specs.Prelude.{ℕ, List, [], ◌∷◌, length, ltb}
use Rattle.fields.specs.Rules.{Rule, rule, Outcome, refused, done, unless, and_then}
use Rattle.fields.specs.Options.{plain}
use Rattle.fields.specs.Answer.{Answer, answer_of}
use Rattle.fields.specs.Patch.{patch}
use Rattle.coff.specs.File.{section_count}
use Rattle.coff.specs.Reading.{read_coff}
use Rattle.lines.specs.Text.{text_of}

abbrev pub text_rules : List ℕ → ℕ → List Rule
text_rules text room = rule (ltb room (length text)) 15 0 ∷ []

-- the text of a COFF file, for a buffer of `room` bytes
unfoldable pub listing : List ℕ → ℕ → Outcome (List ℕ)
listing f room =
    and_then (read_coff plain f) (λ s. unless (text_rules (text_of (section_count f) s) room) (text_of (section_count f) s))

-- its numbers: the text's length
abbrev pub listing_numbers : Outcome (List ℕ) → Answer
listing_numbers = answer_of 1 (λ (text : List ℕ). length text ∷ [])

-- the answer
unfoldable pub listed_of : Outcome (List ℕ) → Outcome ℕ
listed_of (refused code index) = refused code index
listed_of (done text) = done (length text)

-- the buffer afterwards: the text at its start, or what it held
unfoldable pub buffer_after : Outcome (List ℕ) → List ℕ → List ℕ
buffer_after (refused code index) buffer = buffer
buffer_after (done text) buffer = patch buffer 0 text

-- the numbers of each of its cases
unfoldable pub numbers_of_listing : Outcome ℕ → Answer
numbers_of_listing (refused code index) = record { code = code; index = index; figures = 0 ∷ [] }
numbers_of_listing (done size) = record { code = 0; index = 0; figures = size ∷ [] }
