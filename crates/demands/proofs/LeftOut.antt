-- Patterns only leave out: a section whose name is taken is not in the program, none comes in that is not there without them, and where they spare a file each call answers as if nothing but their order were asked for.
use Prim.Native.Nat.{ℕ, ◌<◌}
use mathlib.Core.Path.{◌≡◌, refl, sym, ◌∙◌}
use mathlib.Core.Bool.{Bool, true, false, not, ◌&&◌, and-false}
use mathlib.Core.List.{List, []}
use lib.ListN.{length}
use lib.Dec.{ltb}
use Rattle.fields.specs.Options.{Options, plain, option_rules}
use Rattle.fields.proofs.RuleLaws.{first_silent}
use Rattle.patterns.specs.Taking.{takes_any}
use Rattle.coff.specs.File.{section_count, section_of}
use Rattle.coff.specs.Names.{name_of, has_unreadable_name}
use Rattle.coff.specs.Kept.{is_kept, keeps}
use Rattle.coff.specs.Refusals.{lacks_name}
use Rattle.coff.specs.Reading.{part_of, read_coff}
use Rattle.coff.proofs.ChoosingLaws.{kept_by_flags_lem}
use Rattle.image.specs.Converting.{converting, measuring}
use Rattle.image.specs.Order.{undone, written}
use Rattle.image.proofs.OrderLaws.{undone_written}
use Rattle.loader.specs.Loading.{loading_coff}
use Rattle.compare.specs.Checking.{checking}
use Rattle.demands.specs.ByFlags.{kept_by_flags, read_by_flags}
use Rattle.demands.specs.Spared.{Spares}
use Rattle.demands.proofs.AsBefore.{reads_by_flags, plain_keeps, plain_reads, plain_converts, plain_measures, plain_loads, plain_checks}

module _ (o : Options) (f : List ℕ) (i : ℕ) where
  pub taken_is_left : takes_any o.patterns (name_of f i) ≡ true → keeps o f i ≡ false
  unfolding keeps
  taken_is_left h = rw h (and-false (is_kept (section_of f i)))

  pub taken_has_no_part : takes_any o.patterns (name_of f i) ≡ true → part_of (keeps o f) f i ≡ []
  unfolding part_of
  taken_has_no_part h = rw (taken_is_left h)

  pub patterns_only_leave_out : keeps o f i ≡ true → keeps plain f i ≡ true
  patterns_only_leave_out h = plain_keeps f i ∙ kept_by_flags_lem o f i h

-- Options that spare a file.
module _ (o : Options) (f : List ℕ) (s : Spares o f) where
  spared_kept : (i : ℕ) → i < section_count f → keeps o f i ≡ kept_by_flags f i
  unfolding keeps kept_by_flags
  spared_kept i h = go (is_kept (section_of f i)) (s.spared i h)
    where
      go : (t : Bool) → (t ≡ true → takes_any o.patterns (name_of f i) ≡ false) → t && not (takes_any o.patterns (name_of f i)) ≡ t
      go true k = rw (k refl)
      go false k = refl

  spared_named : (i : ℕ) → i < section_count f → lacks_name o f i ≡ false
  unfolding lacks_name
  spared_named i h = rw (go (is_kept (section_of f i)) (s.named i h)) (and-false (ltb 0 (length o.patterns)))
    where
      go : (t : Bool) → (t ≡ true → has_unreadable_name f i ≡ false) → t && has_unreadable_name f i ≡ false
      go true k = k refl
      go false k = refl

  by_flags : read_coff o f ≡ read_by_flags f
  by_flags = reads_by_flags o f spared_named spared_kept

  pub spared_reads : read_coff o f ≡ read_coff plain f
  spared_reads = by_flags ∙ sym (plain_reads f)

  pub spared_converts : (room : ℕ) → converting o f room ≡ converting plain f room
  spared_converts room = unfold converting in first_silent (option_rules o) _ s.passes ∙ rw by_flags (sym (plain_converts f room))

  pub spared_measures : measuring o f ≡ measuring plain f
  spared_measures = unfold measuring in first_silent (option_rules o) _ s.passes ∙ rw by_flags (sym (plain_measures f))

  pub spared_loads : (base room : ℕ) → loading_coff o f base room ≡ loading_coff plain f base room
  spared_loads base room = unfold loading_coff in first_silent (option_rules o) _ s.passes ∙ rw by_flags (sym (plain_loads f base room))

  -- of an image in their order after undoing it ..
  pub spared_checks : (image : List ℕ) → checking o f image ≡ checking plain f (undone o.order image)
  spared_checks image = unfold checking in first_silent (option_rules o) _ s.passes ∙ rw by_flags (sym (plain_checks f (undone o.order image)))

  -- .. and so of one that is written in it
  pub spared_checks_written : (image : List ℕ) → checking o f (written o.order image) ≡ checking plain f image
  spared_checks_written image = spared_checks (written o.order image) ∙ rw undone_written
