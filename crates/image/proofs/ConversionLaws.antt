-- The answer of a conversion: the options' refusal, the file's, rule 14, rule 15, or the image; and that of measuring alone, of which each conversion begins with the last.
use Prim.Native.Nat.{ℕ, ◌<◌, ◌≤◌}
use mathlib.Core.Path.{◌≡◌, refl, sym, ◌∙◌}
use mathlib.Core.Bool.{true, false}
use mathlib.Core.List.{List, [], ◌∷◌}
use lib.Dec.{ltb}
use lib.ListN.{length}
use native.Mathlib.Omega.{arith}
use borrow.Author.Tests.{ltb-false}
use Rattle.fields.specs.Rules.{Rule, rule, Outcome, refused, done, unless, and_then, Silent}
use Rattle.fields.specs.Answer.{answer_of}
use Rattle.fields.specs.Options.{Options, in_order, are_refused, is_no_order}
use Rattle.fields.specs.Patch.{patch}
use Rattle.fields.specs.Program.{Program, Source, program_of}
use Rattle.fields.proofs.TestLaws.{tests}
use Rattle.fields.proofs.RuleLaws.{broken, silent_done, done_silent, refused_front}
use Rattle.fields.proofs.OptionLaws.{options_refuse, order_refused, options_pass}
use Rattle.coff.specs.Reading.{read_coff}
use Rattle.coff.proofs.OrderLaws.{read_in_order}
use Rattle.image.specs.Layout.{image_of, image_length}
use Rattle.image.specs.Order.{written}
use Rattle.image.specs.Converting.{room_rules, length_rules, writing, sizing, converting, measuring, conversion_numbers, conversion_of, numbers_of_conversion, output_after}
use Rattle.image.specs.declared.Figures.{Figures}

-- From an answer back to the outcome.

conversion_refused : (o : Outcome Program) {code index : ℕ} → refused code index ≡ conversion_of o → o ≡ refused code index
unfolding conversion_of
conversion_refused (refused c i) e = cc
conversion_refused (done p) e = let z : ◌≡◌ {A = ℕ} 0 1 = cc in absurd (omega arith)

conversion_done : (rs : List Rule) (p : Program) {made : Figures} → done made ≡ conversion_of (unless rs p) → Silent rs × (made.length ≡ image_length p) × (made.kept ≡ length p.blocks)
unfolding conversion_of
conversion_done rs p {made} e = go (unless rs p) refl e
  where
    go : (o : Outcome Program) → unless rs p ≡ o → done made ≡ conversion_of o → Silent rs × (made.length ≡ image_length p) × (made.kept ≡ length p.blocks)
    go (refused c i) q e = let z : ◌≡◌ {A = ℕ} 0 1 = cc in absurd (omega arith)
    go (done b) q e = let k = done_silent rs p b q in (k.0, rw k.1 (cc), rw k.1 (cc))

-- and on to the answer of a refusal
pub conversion_is : (o : Outcome Program) {code index : ℕ} → o ≡ refused code index → refused code index ≡ conversion_of o
unfolding conversion_of
conversion_is o e = rw e

-- Any outcome that is a refusal, with its numbers and what it leaves.
pub refuses : (order : ℕ) (o : Outcome Program) {code index : ℕ} → o ≡ refused code index → (out : List ℕ) → (refused code index ≡ conversion_of o) × (out ≡ output_after order o out)
unfolding conversion_of output_after
refuses order o h out = rw h (refl, refl)

-- Rule 14 of what was read.
module _ (source : Source) where
  abbrev program : Program
  program = program_of source

  sized : sizing (done source) ≡ unless (length_rules program) program
  unfolding sizing and_then
  sized = refl

  pub sized_long : 16777216 < image_length program → refused 14 0 ≡ conversion_of (sizing (done source))
  unfolding conversion_of
  sized_long l = rw (sized, broken 0 (length_rules program) program {code = 14} {index = 0} (omega (arith, tests)))

  pub sizes : (made : Figures) → (made.length ≡ image_length program) × (made.kept ≡ length program.blocks) × (made.length ≤ 16777216) → done made ≡ conversion_of (sizing (done source))
  unfolding conversion_of
  sizes made m = rw (sized, silent_done (length_rules program) program (omega (arith, tests))) (λ i. done (record { length = m.0 i; kept = m.1 i }))

  -- and what its answer says
  pub sized_done : {made : Figures} → done made ≡ conversion_of (sizing (done source)) → (made.length ≡ image_length program) × (made.kept ≡ length program.blocks) × (image_length program ≤ 16777216)
  sized_done e =
      let k = conversion_done (length_rules program) program (rw sized at e) in
      (k.1, k.2, ltb-false _ _ k.0.0)

  -- Then rule 15, of an output of so much room, in an order.
  module _ (order room : ℕ) where
    abbrev outcome : Outcome Program
    outcome = writing (done source) room

    asked : outcome ≡ unless (room_rules program room) program
    unfolding writing and_then
    asked = refl

    pub too_long_lem : {code index : ℕ} → refused code index ≡ conversion_of (sizing (done source)) → (out : List ℕ) → (refused code index ≡ conversion_of outcome) × (out ≡ output_after order outcome out)
    too_long_lem e out =
        let q = sym sized ∙ conversion_refused (sizing (done source)) e in
        refuses order outcome (asked ∙ refused_front (length_rules program) (rule (ltb room (image_length program)) 15 0 ∷ []) program program q) out

    module _ {made : Figures} (e : done made ≡ conversion_of (sizing (done source))) where
      pub too_small : room < made.length → (out : List ℕ) → (refused 15 0 ≡ conversion_of outcome) × (out ≡ output_after order outcome out)
      too_small h out =
          let k = sized_done e in
          refuses order outcome (asked ∙ broken 1 (room_rules program room) program (omega (arith, tests))) out

      -- the numbers and the output, where the image is made
      pub makes : made.length ≤ room → (out : List ℕ) → (done made ≡ conversion_of outcome) × (patch out 0 (written order (image_of program)) ≡ output_after order outcome out)
      unfolding conversion_of output_after
      makes h out =
          let k = sized_done e in
          let d = asked ∙ silent_done (room_rules program room) program (omega (arith, tests)) in
          rw d ((λ i. done (record { length = k.0 i; kept = k.1 i })), refl)

-- A conversion: the options' refusal, the file's, or what was read is written. The file is read as without an order.
module _ (order : ℕ) (o : Options) (f : List ℕ) (room : ℕ) where
  abbrev conversion : Outcome Program
  conversion = converting (in_order order o) f room

  pub not_asked : are_refused o.patterns ≡ true → conversion ≡ refused 17 0
  unfolding converting
  not_asked h = options_refuse (in_order order o) _ h

  module _ (h : are_refused o.patterns ≡ false) where
    pub not_ordered : is_no_order order ≡ true → conversion ≡ refused 33 0
    unfolding converting
    not_ordered k = order_refused (in_order order o) _ h k

    module _ (k : is_no_order order ≡ false) where
      pub file_refused : {code index : ℕ} → read_coff o f ≡ refused code index → conversion ≡ refused code index
      unfolding converting writing and_then
      file_refused e = options_pass (in_order order o) _ h k ∙ rw (read_in_order order o f, e)

      pub file_read : {source : Source} → read_coff o f ≡ done source → conversion ≡ writing (done source) room
      unfolding converting
      file_read e = options_pass (in_order order o) _ h k ∙ rw (read_in_order order o f, e)

-- Measuring: the options' refusal, the file's, or what was read is measured.
module _ (o : Options) (f : List ℕ) where
  pub not_measured : are_refused o.patterns ≡ true → measuring o f ≡ refused 17 0
  unfolding measuring
  not_measured h = options_refuse o _ h

  module _ (h : are_refused o.patterns ≡ false) (k : is_no_order o.order ≡ false) where
    pub file_not_measured : {code index : ℕ} → read_coff o f ≡ refused code index → measuring o f ≡ refused code index
    unfolding measuring sizing and_then
    file_not_measured e = options_pass o _ h k ∙ rw e

    pub file_measured : {source : Source} → read_coff o f ≡ done source → measuring o f ≡ sizing (done source)
    unfolding measuring
    file_measured e = options_pass o _ h k ∙ rw e

-- the numbers of an answer are those of the outcome
pub measured_numbers : (o : Outcome Program) {r : Outcome Figures} → r ≡ conversion_of o → (r ≡ conversion_of o) × (numbers_of_conversion r ≡ conversion_numbers o)
unfolding conversion_of numbers_of_conversion answer_of
measured_numbers (refused code index) e = (e, rw e)
measured_numbers (done p) e = (e, rw e)

pub conversion_numbers_lem : (order : ℕ) (o : Outcome Program) (out : List ℕ) {r : Outcome Figures} {after : List ℕ} → (r ≡ conversion_of o) × (after ≡ output_after order o out) → (r ≡ conversion_of o) × ((numbers_of_conversion r ≡ conversion_numbers o) × (after ≡ output_after order o out))
conversion_numbers_lem order o out e = (e.0, ((measured_numbers o e.0).1, e.1))
