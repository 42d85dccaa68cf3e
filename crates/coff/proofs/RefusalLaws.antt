-- A refusal's numbers are small: codes 1 to 13 and 16, and no index above 256, since a file of more sections is refused before any section is asked.
use Prim.Native.Nat.{ℕ, ◌≤◌, ◌<◌}
use mathlib.Core.Path.{◌≡◌, subst}
use mathlib.Core.Bool.{Bool, true, false, cond}
use mathlib.Core.List.{List, [], ◌++◌}
use native.Mathlib.Omega.{arith}
use borrow.Author.Tests.{ltb-false}
use Rattle.fields.specs.Counting.{joined}
use Rattle.fields.specs.Rules.{Rule, Outcome, refused}
use Rattle.fields.specs.Options.{Options}
use Rattle.fields.specs.Program.{Source}
use Rattle.fields.proofs.RefusalLaws.{EachRule, OfOutcome, rules_append, rules_joined, outcome_front, outcome_unless}
use Rattle.coff.specs.File.{section_count, section_of}
use Rattle.coff.specs.Kept.{keeps}
use Rattle.coff.specs.Refusals.{head_rules, kept_rules, section_rules, rules_by, rules_of, overlap_rules, coff_rules}
use Rattle.coff.specs.Reading.{coff_source, read_coff}

abbrev pub Small : ℕ → ℕ → Type 0
Small code index = (0 < code) × (code ≤ 16) × (index ≤ 256)

-- of what is read nothing is said here
abbrev Any : Source → Type 0
Any source = Unit {0}

module _ (o : Options) (f : List ℕ) where
  head_small : EachRule Small (head_rules f)
  head_small = omega arith

  section_small : (i : ℕ) → i ≤ 256 → EachRule Small (rules_of o f i)
  unfolding rules_by section_rules
  section_small i h = (omega arith, go (keeps o f i))
    where
      go : (t : Bool) → EachRule Small (cond t (kept_rules f (section_of f i) i) [])
      go true = omega arith
      go false = tt

  -- the rows of the table that name a section
  abbrev sections : List Rule
  sections = joined (rules_of o f) (section_count f)

  abbrev pairs : List Rule
  pairs = joined (overlap_rules (keeps o f) f) (section_count f)

  all_small : OfOutcome Small Any (read_coff o f)
  unfolding read_coff coff_rules
  all_small =
      outcome_front Small Any (head_rules f) (sections ++ pairs) (coff_source o f) head_small
      (λ silent.
      let few : section_count f ≤ 256 = ltb-false 256 (section_count f) silent.1.1.1.1.1.1.0 in
      outcome_unless Small Any (sections ++ pairs) (coff_source o f)
      (rules_append Small sections pairs
      (rules_joined Small (rules_of o f) (section_count f) (λ i l. section_small i (omega arith)))
      (rules_joined Small (overlap_rules (keeps o f) f) (section_count f) (λ i l. omega arith)))
      (λ more. tt))

  pub refusal_small : {code index : ℕ} → read_coff o f ≡ refused code index → Small code index
  refusal_small h = subst (λ (out : Outcome Source). OfOutcome Small Any out) h all_small
