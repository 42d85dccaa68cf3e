-- The ways a check ends.
use Prim.Native.Nat.{ℕ}
use mathlib.Core.Path.{◌≡◌, sym, ◌∙◌}
use mathlib.Core.Bool.{Bool, true, false, not}
use mathlib.Core.List.{List, [], ◌∷◌}
use borrow.Author.Tests.{eq-eqb, ne_eqb}
use lib.Dec.{eqb}
use Rattle.fields.specs.Rules.{rule, Outcome, refused, done, unless, ruling_of, and_then}
use Rattle.fields.specs.Answer.{answer_of}
use Rattle.fields.specs.Options.{Options, in_order, are_refused, is_no_order}
use Rattle.fields.specs.Program.{Source, blocks_of_parts, blocks_of, program_of}
use Rattle.fields.proofs.OptionLaws.{options_refuse, order_refused, options_pass}
use Rattle.coff.specs.declared.parts.Coff.{Coff}
use Rattle.coff.specs.Handed.{parts_in, source_in}
use Rattle.coff.specs.Reading.{read_coff}
use Rattle.coff.proofs.OrderLaws.{read_in_order}
use Rattle.image.specs.declared.blocks.Image.{Image}
use Rattle.image.specs.Handed.{undone_in, blocks_of_image, source_of_image}
use Rattle.image.specs.Order.{undone}
use Rattle.image.specs.Reading.{read_image}
use Rattle.image.specs.Walking as walking
use Rattle.image.proofs.ReadLaws.{source_entry, source_blocks}
use Rattle.compare.specs.Same.{same_placement}
use Rattle.compare.specs.Checking.{difference_rules, comparing, checking, check_numbers, numbers_of_verdict}

-- Rules 40 and 41, of a file and an image that are read: each way out.
module _ (file : Coff) (image : Image) (a : walking.Accepted (undone_in image) image.entry image.blocks) where
  abbrev differences : Outcome (Unit {0})
  differences = ruling_of (difference_rules (program_of (source_in file)) (program_of (source_of_image image)))

  -- what the two rules ask, in the words of what is handed on
  asked : differences ≡ ruling_of (rule (not (eqb file.entry image.entry)) 40 0 ∷ rule (not (same_placement (blocks_of_parts (parts_in file)) (blocks_of_image image))) 41 0 ∷ [])
  unfolding program_of blocks_of
  asked = rw (source_entry (undone_in image), source_blocks (undone_in image), a.entry_is)

  pub entries_differ : (file.entry ≡ image.entry → ⊥) → refused 40 0 ≡ differences
  unfolding unless
  entries_differ h = rw (asked, ne_eqb file.entry image.entry h)

  module _ (h : file.entry ≡ image.entry) {r : Bool} (e : r ≡ same_placement (blocks_of_parts (parts_in file)) (blocks_of_image image)) where
    pub places_differ : r ≡ false → refused 41 0 ≡ differences
    unfolding unless
    places_differ k = rw (asked, eq-eqb file.entry image.entry h, sym e ∙ k)

    pub all_same : r ≡ true → done tt ≡ differences
    unfolding unless
    all_same k = rw (asked, eq-eqb file.entry image.entry h, sym e ∙ k)

-- A check in an order: the options' refusal, the file's, the image's, or what rules 40 and 41 say of both.
module _ (o : Options) (order : ℕ) (f s : List ℕ) where
  abbrev checked : Outcome (Unit {0})
  checked = checking (in_order order o) f s

  abbrev compared : Outcome (Unit {0})
  compared = comparing (read_coff (in_order order o) f) (read_image (undone order s))

  pub not_asked : are_refused o.patterns ≡ true → refused 17 0 ≡ checked
  unfolding checking
  not_asked h = sym (options_refuse (in_order order o) compared h)

  module _ (h : are_refused o.patterns ≡ false) where
    pub not_ordered : is_no_order order ≡ true → refused 33 0 ≡ checked
    unfolding checking
    not_ordered k = sym (order_refused (in_order order o) compared h k)

    module _ (k : is_no_order order ≡ false) where
      passes : checked ≡ comparing (read_coff o f) (read_image (undone order s))
      unfolding checking
      passes = options_pass (in_order order o) compared h k ∙ rw (read_in_order order o f)

      pub file_refused : {code index : ℕ} → read_coff o f ≡ refused code index → refused code index ≡ checked
      unfolding comparing and_then
      file_refused e = rw (passes, e)

      module _ {source : Source} (e : read_coff o f ≡ done source) where
        pub image_refused : {code index : ℕ} → read_image (undone order s) ≡ refused code index → refused code index ≡ checked
        unfolding comparing and_then
        image_refused d = rw (passes, e, d)

        pub both_read : {other : Source} → read_image (undone order s) ≡ done other → ruling_of (difference_rules (program_of source) (program_of other)) ≡ checked
        unfolding comparing and_then
        both_read d = rw (passes, e, d)

-- the numbers of an answer are those of the outcome
pub check_numbers_lem : (o : Outcome (Unit {0})) {r : Outcome (Unit {0})} → r ≡ o → numbers_of_verdict r ≡ check_numbers o
unfolding numbers_of_verdict answer_of
check_numbers_lem (refused code index) e = rw e
check_numbers_lem (done u) e = rw e
