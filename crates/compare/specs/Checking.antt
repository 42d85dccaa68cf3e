-- The check: the rules of the options and of the file, then those of the image, then 40 and 41.
use Rattle.std.specs.Prelude.{ℕ, not, List, [], ◌∷◌, eqb}
use Rattle.fields.specs.Rules.{Rule, rule, Outcome, refused, done, unless, and_then, rules_first}
use Rattle.fields.specs.Options.{Options, option_rules}
use Rattle.fields.specs.Answer.{Answer, answer_of}
use Rattle.fields.specs.Program.{Program, Source, program_of}
use Rattle.coff.specs.Reading.{read_coff}
use Rattle.image.specs.Reading.{read_image_in}
use Rattle.compare.specs.Same.{same_placement}

abbrev pub difference_rules : Program → Program → List Rule
difference_rules p q =
    rule (not (eqb p.entry q.entry)) 40 0
    ∷ rule (not (same_placement p.blocks q.blocks)) 41 0
    ∷ []

-- of any two readers' results
unfoldable pub comparing : Outcome Source → Outcome Source → Outcome (Unit {0})
comparing file image =
    and_then file (λ s. and_then image (λ t. unless (difference_rules (program_of s) (program_of t)) tt))

-- the order is the image's
unfoldable pub checking : Options → List ℕ → List ℕ → Outcome (Unit {0})
checking o file image = rules_first (option_rules o) (comparing (read_coff o file) (read_image_in o image))

-- its numbers: a check has no figure
abbrev pub check_numbers : Outcome (Unit {0}) → Answer
check_numbers = answer_of 0 (λ (u : Unit {0}). [])

-- the numbers of each of its cases
unfoldable pub numbers_of_verdict : Outcome (Unit {0}) → Answer
numbers_of_verdict (refused code index) = record { code = code; index = index; figures = [] }
numbers_of_verdict (done u) = record { code = 0; index = 0; figures = [] }
