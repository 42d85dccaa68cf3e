-- What reading a file answers.
use Rattle.std.specs.Prelude.{ℕ, List, [], ◌∷◌}
use Rattle.fields.specs.Rules.{Outcome, refused, done}
use Rattle.fields.specs.Answer.{Answer, answer_of}
use Rattle.fields.specs.Options.{Options}
use Rattle.fields.specs.Program.{Source}
use Rattle.coff.specs.declared.Sections.{Sections}
use Rattle.coff.specs.declared.parts.Coff.{Coff}
use Rattle.coff.specs.File.{section_count, headers_begin}
use Rattle.coff.specs.Kept.{keeps}
use Rattle.coff.specs.Marks.{marks_below}
use Rattle.coff.specs.Reading.{read_coff}

-- what is answered of a file that is not refused
pub record Headers : Type 0 where
  pub sections : Sections
  pub entry : ℕ

-- where the section headers begin, how many there are, and which sections are kept
unfoldable pub sections_of : Options → List ℕ → Sections
sections_of o f = record { at = headers_begin f; count = section_count f; kept = marks_below (keeps o f) (section_count f) }

-- the numbers of reading a file: the entry point and the section count
abbrev pub headers_numbers : Options → List ℕ → Answer
headers_numbers o f = answer_of 2 (λ (s : Source). s.entry ∷ section_count f ∷ []) (read_coff o f)

-- the answer
unfoldable pub headers_of : Options → List ℕ → Outcome Headers
headers_of o f =
    elim (read_coff o f) [
      | refused code index ↦ refused code index
      | done source ↦ done (record { sections = sections_of o f; entry = source.entry })
    ]

-- .. as the code hands it on, beside the file's bytes
abbrev pub headers_in : Coff → Headers
headers_in file = record { sections = file.sections; entry = file.entry }

-- the numbers of each of its cases
unfoldable pub numbers_of_headers : Outcome Headers → Answer
numbers_of_headers (refused code index) = record { code = code; index = index; figures = 0 ∷ 0 ∷ [] }
numbers_of_headers (done h) = record { code = 0; index = 0; figures = h.entry ∷ h.sections.count ∷ [] }
