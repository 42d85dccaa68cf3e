-- A COFF file that is read by the numbers in its headers alone. Nothing here knows of a name, nor of anything that is asked for.
use Rattle.std.specs.Prelude.{ℕ, Bool, List}
use Rattle.fields.specs.Rules.{Rule, Outcome, unless}
use Rattle.fields.specs.Program.{Source}
use Rattle.coff.specs.File.{section_of}
use Rattle.coff.specs.Kept.{is_kept}
use Rattle.coff.specs.Refusals.{section_rules, rules_with}
use Rattle.coff.specs.Reading.{source_with}

unfoldable pub kept_by_flags : List ℕ → ℕ → Bool
kept_by_flags f i = is_kept (section_of f i)

-- rules 1 to 13
unfoldable pub rules_by_flags : List ℕ → List Rule
rules_by_flags f = rules_with (section_rules (kept_by_flags f) f) (kept_by_flags f) f

-- a refusal, or the entry point and the kept sections in the order of their headers
unfoldable pub read_by_flags : List ℕ → Outcome Source
read_by_flags f = unless (rules_by_flags f) (source_with (kept_by_flags f) f)
