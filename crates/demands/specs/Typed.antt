-- A COFF file as it was read before request Two. Rules, parts and names are the reader's own; only what is kept differs.
use Rattle.std.specs.Prelude.{ℕ, ◌<◌, ◌≡◌, Bool, false, not, ◌&&◌, List, length, ltb}
use Rattle.fields.specs.Rules.{Rule, Outcome, unless}
use Rattle.fields.specs.Options.{Options}
use Rattle.fields.specs.Program.{Source}
use Rattle.patterns.specs.Taking.{takes_any}
use Rattle.coff.specs.File.{section_count, section_of}
use Rattle.coff.specs.Names.{name_of, has_unreadable_name}
use Rattle.coff.specs.Kept.{is_kept_typed, is_kept_plain}
use Rattle.coff.specs.Refusals.{rules_by, rules_with}
use Rattle.coff.specs.Reading.{source_with}

-- a section is kept by paper 01's sentence alone, and no pattern takes its name
unfoldable pub keeps_typed : Options → List ℕ → ℕ → Bool
keeps_typed o f i = is_kept_typed (section_of f i) && not (takes_any o.patterns (name_of f i))

-- rule 16 was asked of such sections
unfoldable pub lacks_name_typed : Options → List ℕ → ℕ → Bool
lacks_name_typed o f i = ltb 0 (length o.patterns) && (is_kept_typed (section_of f i) && has_unreadable_name f i)

-- the rows of a section, and the whole file
abbrev pub rules_typed : Options → List ℕ → ℕ → List Rule
rules_typed o f i = rules_by (lacks_name_typed o f i) (keeps_typed o f) f i

unfoldable pub read_typed : Options → List ℕ → Outcome Source
read_typed o f = unless (rules_with (rules_typed o f) (keeps_typed o f) f) (source_with (keeps_typed o f) f)

-- no section of the file is kept for being plain
abbrev pub NoneKeptPlain : List ℕ → Type 0
NoneKeptPlain f = (i : ℕ) → i < section_count f → is_kept_plain (section_of f i) ≡ false
