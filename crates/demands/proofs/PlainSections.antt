-- Plain sections are kept, and nothing else has changed: a file of which no section is kept for being plain is read as it was before, whatever is asked for, since
-- both tests keep the same of its sections.
use Prim.Native.Nat.{ℕ, ◌<◌}
use mathlib.Core.Path.{◌≡◌}
use mathlib.Core.Bool.{true, false, or-true, or-false}
use mathlib.Core.List.{List}
use Rattle.fields.specs.Rules.{rules_first, and_then, unless}
use Rattle.fields.specs.Options.{Options, plain, option_rules}
use Rattle.fields.proofs.CountingLaws.{joined_same}
use Rattle.patterns.specs.Taking.{takes_any}
use Rattle.coff.specs.File.{section_count, section_of}
use Rattle.coff.specs.Names.{name_of}
use Rattle.coff.specs.Kept.{is_kept_typed, is_kept_plain, is_kept, keeps}
use Rattle.coff.specs.Refusals.{section_rules, lacks_name, rules_by, rules_of, coff_rules}
use Rattle.coff.specs.Reading.{read_coff}
use Rattle.coff.proofs.OverlapLaws.{pairs_same}
use Rattle.image.specs.Converting.{writing, sizing, converting, measuring}
use Rattle.image.specs.Order.{undone}
use Rattle.image.specs.Reading.{read_image}
use Rattle.loader.specs.Loading.{loading, loading_coff}
use Rattle.compare.specs.Checking.{comparing, checking}
use Rattle.lines.specs.Text.{text_of}
use Rattle.lines.specs.Listing.{text_rules, listing}
use Rattle.demands.proofs.AsBefore.{source_same}
use Rattle.demands.specs.Typed.{keeps_typed, lacks_name_typed, rules_typed, read_typed, NoneKeptPlain}

-- Of one section: whatever is asked for, unless its name is taken.
pub untyped_section_is_kept : (o : Options) (f : List ℕ) (i : ℕ) → is_kept_plain (section_of f i) ≡ true → takes_any o.patterns (name_of f i) ≡ false → keeps o f i ≡ true
unfolding keeps is_kept
untyped_section_is_kept o f i h spared = rw (h, spared, or-true (is_kept_typed (section_of f i)))

-- Of a file.
module _ (o : Options) (f : List ℕ) (none : NoneKeptPlain f) where
  kept_as_before : (i : ℕ) → i < section_count f → is_kept (section_of f i) ≡ is_kept_typed (section_of f i)
  unfolding is_kept
  kept_as_before i h = rw (none i h) (or-false (is_kept_typed (section_of f i)))

  keeps_as_before : (i : ℕ) → i < section_count f → keeps o f i ≡ keeps_typed o f i
  unfolding keeps keeps_typed
  keeps_as_before i h = rw (kept_as_before i h)

  lacks_as_before : (i : ℕ) → i < section_count f → lacks_name o f i ≡ lacks_name_typed o f i
  unfolding lacks_name lacks_name_typed
  lacks_as_before i h = rw (kept_as_before i h)

  rows_as_before : (i : ℕ) → i < section_count f → rules_of o f i ≡ rules_typed o f i
  unfolding rules_by section_rules
  rows_as_before i h = rw (lacks_as_before i h, keeps_as_before i h)

  pub reads_as_before : read_coff o f ≡ read_typed o f
  unfolding read_coff coff_rules read_typed
  reads_as_before =
      rw (source_same o f (keeps_typed o f) keeps_as_before, joined_same (rules_of o f) (rules_typed o f) (section_count f) rows_as_before, pairs_same f (keeps o f) (keeps_typed o f) (section_count f) keeps_as_before)

  pub converts_as_before : (room : ℕ) → converting o f room ≡ rules_first (option_rules o) (writing (read_typed o f) room)
  unfolding converting
  converts_as_before room = rw reads_as_before

  pub measures_as_before : measuring o f ≡ rules_first (option_rules o) (sizing (read_typed o f))
  unfolding measuring
  measures_as_before = rw reads_as_before

  pub loads_as_before : (base room : ℕ) → loading_coff o f base room ≡ rules_first (option_rules o) (loading (read_typed o f) base room)
  unfolding loading_coff
  loads_as_before base room = rw reads_as_before

  pub checks_as_before : (image : List ℕ) → checking o f image ≡ rules_first (option_rules o) (comparing (read_typed o f) (read_image (undone o.order image)))
  unfolding checking
  checks_as_before image = rw reads_as_before

-- The listing asks for nothing.
pub lists_as_before : (f : List ℕ) → NoneKeptPlain f → (room : ℕ) → listing f room ≡ and_then (read_typed plain f) (λ s. unless (text_rules (text_of (section_count f) s) room) (text_of (section_count f) s))
unfolding listing
lists_as_before f none room = rw (reads_as_before plain f none)
