-- What a COFF file means: a refusal, or its entry point and its kept sections in the order of their headers.
use Rattle.std.specs.Prelude.{ℕ, Bool, cond, List, [], ◌∷◌, take, drop}
use Rattle.fields.specs.Counting.{joined}
use Rattle.fields.specs.Rules.{Outcome, unless}
use Rattle.fields.specs.Options.{Options}
use Rattle.fields.specs.Program.{Block, Numbered, Source}
use Rattle.coff.specs.File.{section_count, entry_point, Section, section_of}
use Rattle.coff.specs.Kept.{keeps}
use Rattle.coff.specs.Refusals.{coff_rules}

-- the raw bytes of a section, with its two addresses
unfoldable pub block_of : List ℕ → Section → Block
block_of f s = record { load = s.load; run = s.run; bytes = take s.size (drop s.raw f) }

-- a kept section with its number, and nothing for any other
unfoldable pub part_of : (ℕ → Bool) → List ℕ → ℕ → List Numbered
part_of keep f i = cond (keep i) (record { number = i; block = block_of f (section_of f i) } ∷ []) []

-- the entry point, and the parts of the sections that the test keeps
abbrev pub source_with : (ℕ → Bool) → List ℕ → Source
source_with keep f = record { entry = entry_point f; parts = joined (part_of keep f) (section_count f) }

unfoldable pub coff_source : Options → List ℕ → Source
coff_source o f = source_with (keeps o f) f

unfoldable pub read_coff : Options → List ℕ → Outcome Source
read_coff o f = unless (coff_rules o f) (coff_source o f)
