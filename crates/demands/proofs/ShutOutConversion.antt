-- Wrong converters that the promise shuts out: each breaks it on a stated file, where what the promise says can be computed, with any options that spare that file.
use Prim.Native.Nat.{ℕ, ◌+◌}
use mathlib.Core.Path.{◌≡◌, refl, ap, sym, ◌∙◌}
use mathlib.Core.Bool.{false}
use mathlib.Core.List.{List, [], ◌∷◌}
use native.Mathlib.Omega.{arith}
use lib.ListN.{length, get_or}
use Rattle.fields.specs.Patch.{patch}
use Rattle.fields.specs.Rules.{Outcome, refused, done}
use Rattle.fields.specs.Options.{Options, plain, is_no_order}
use Rattle.fields.specs.Program.{Program, blocks_of, program_of}
use Rattle.patterns.specs.Taking.{star, takes_any}
use Rattle.patterns.specs.Row.{options_of}
use Rattle.coff.specs.Reading.{coff_source}
use Rattle.image.specs.Layout.{image_of, image_length}
use Rattle.image.specs.Converting.{converting, conversion_of, output_after}
use Rattle.image.specs.declared.Figures.{Figures}
use Rattle.image.proofs.LayoutLaws.{length_image}
use Rattle.demands.proofs.Convertible.{conversion_is_kept}
use Rattle.demands.specs.Promises.{Converts}
use Rattle.demands.specs.Spared.{Passes}
use Rattle.demands.proofs.Passing.{in_each_order}
use Rattle.demands.proofs.LeftOut.{spared_converts}
use Rattle.demands.proofs.SparedFiles.{spares_A, spares_bare}
use Rattle.entries.specs.Bench.{result_of, file_a, file_bare, AA}

-- a converter: what it answers for what is asked, a file and an output, and what it leaves in the output
pub record Converter : Type 0 where
  pub answer : Options → List ℕ → List ℕ → Outcome Figures
  pub left : Options → List ℕ → List ℕ → List ℕ

-- it keeps its promise on one call
abbrev pub Keeps : Converter → Options → List ℕ → List ℕ → Type 0
Keeps c o file out = Converts o file out (c.answer o file out) (c.left o file out)

-- an image's length, and how many sections are kept
abbrev pub figures : ℕ → ℕ → Figures
figures length kept = record { length = length; kept = kept }

-- What the promise says of A and of the file of which none is kept, into 28 bytes: the answers, and the first and last byte of the image's second number, in every order.

plain_whole : conversion_of (converting plain file_a 28) ≡ done (figures 28 1)
unfolding result_of
plain_whole = refl

plain_bare : conversion_of (converting plain file_bare 28) ≡ done (figures 8 0)
unfolding result_of
plain_bare = refl

abbrev ends : List ℕ → ℕ
ends l = get_or l 4 0 + get_or l 7 0

plain_whole_ends : (order : ℕ) → is_no_order order ≡ false → ends (output_after order (converting plain file_a 28) (AA 28)) ≡ 5
unfolding result_of
plain_whole_ends = in_each_order (λ order. ends (output_after order (converting plain file_a 28) (AA 28)) ≡ 5) refl refl refl refl

plain_bare_ends : (order : ℕ) → is_no_order order ≡ false → ends (output_after order (converting plain file_bare 28) (AA 28)) ≡ 0
unfolding result_of
plain_bare_ends = in_each_order (λ order. ends (output_after order (converting plain file_bare 28) (AA 28)) ≡ 0) refl refl refl refl

-- With any options that pass: one that refuses everything.
module _ (c : Converter) (o : Options) (passes : Passes o) where
  abbrev bare : converting o file_bare 28 ≡ converting plain file_bare 28
  bare = spared_converts o file_bare (spares_bare o passes) 28

  bare_answer : conversion_of (converting o file_bare 28) ≡ done (figures 8 0)
  bare_answer = rw bare plain_bare

  bare_ends : ends (output_after o.order (converting o file_bare 28) (AA 28)) ≡ 0
  bare_ends = rw bare (plain_bare_ends o.order passes.1.0)

  pub cannot_refuse_everything : ((file out : List ℕ) → (code : ℕ) × (index : ℕ) × (c.answer o file out ≡ refused code index)) → Keeps c o file_bare (AA 28) → ⊥
  cannot_refuse_everything wrong k =
      let e : refused (wrong file_bare (AA 28)).0 (wrong file_bare (AA 28)).1 ≡ done (figures 8 0) = sym (wrong file_bare (AA 28)).2 ∙ k.0 ∙ bare_answer in
      let z : ◌≡◌ {A = ℕ} 0 1 = cc in
      omega arith

-- With those that besides do not take the empty name, which A's section has.
module _ (c : Converter) (o : Options) (passes : Passes o) (spares : takes_any o.patterns [] ≡ false) where
  abbrev whole : converting o file_a 28 ≡ converting plain file_a 28
  whole = spared_converts o file_a (spares_A o passes spares) 28

  whole_answer : conversion_of (converting o file_a 28) ≡ done (figures 28 1)
  whole_answer = rw whole plain_whole

  whole_ends : ends (output_after o.order (converting o file_a 28) (AA 28)) ≡ 5
  whole_ends = rw whole (plain_whole_ends o.order passes.1.0)

  -- one whose image is always the same
  pub cannot_always_leave_one_image :
      (image : List ℕ)
      → ((file out : List ℕ) (made : Figures) → c.answer o file out ≡ done made → c.left o file out ≡ patch out 0 image)
      → Keeps c o file_a (AA 28)
      → Keeps c o file_bare (AA 28)
      → ⊥
  cannot_always_leave_one_image image wrong k l =
      let same : c.left o file_a (AA 28) ≡ c.left o file_bare (AA 28) = wrong file_a (AA 28) (figures 28 1) (k.0 ∙ whole_answer) ∙ sym (wrong file_bare (AA 28) (figures 8 0) (l.0 ∙ bare_answer c o passes)) in
      omega (arith, ap ends k.1.1 ∙ whole_ends, ap ends l.1.1 ∙ bare_ends c o passes, ap ends same)

  -- one whose image length, or whose number of kept sections, is always the same
  pub cannot_always_answer_one_length : (n : ℕ) → ((file out : List ℕ) (made : Figures) → c.answer o file out ≡ done made → made.length ≡ n) → Keeps c o file_a (AA 28) → Keeps c o file_bare (AA 28) → ⊥
  cannot_always_answer_one_length n wrong k l =
      omega (arith, wrong file_a (AA 28) (figures 28 1) (k.0 ∙ whole_answer), wrong file_bare (AA 28) (figures 8 0) (l.0 ∙ bare_answer c o passes))

  pub cannot_always_answer_one_kept : (n : ℕ) → ((file out : List ℕ) (made : Figures) → c.answer o file out ≡ done made → made.kept ≡ n) → Keeps c o file_a (AA 28) → Keeps c o file_bare (AA 28) → ⊥
  cannot_always_answer_one_kept n wrong k l =
      omega (arith, wrong file_a (AA 28) (figures 28 1) (k.0 ∙ whole_answer), wrong file_bare (AA 28) (figures 8 0) (l.0 ∙ bare_answer c o passes))

-- One that does not look at what is asked: of A nothing is kept where a star takes every name.

abbrev pub length_of : Outcome Figures → ℕ
length_of (refused code index) = 0
length_of (done made) = made.length

starred_answer : conversion_of (converting (options_of (star ∷ [])) file_a 28) ≡ done (figures 8 0)
unfolding result_of
starred_answer = refl

pub cannot_convert_without_what_is_asked : (c : Converter) → ((o o' : Options) (file out : List ℕ) → c.answer o file out ≡ c.answer o' file out) → Keeps c plain file_a (AA 28) → Keeps c (options_of (star ∷ [])) file_a (AA 28) → ⊥
cannot_convert_without_what_is_asked c wrong k l =
    let e : done (figures 28 1) ≡ done (figures 8 0) = sym plain_whole ∙ sym k.0 ∙ wrong plain (options_of (star ∷ [])) file_a (AA 28) ∙ l.0 ∙ starred_answer in
    let size : ◌≡◌ {A = ℕ} 28 8 = ap length_of e in
    omega arith

-- the figures of conversion
figures_are : (o : Outcome Program) (made : Figures) → conversion_of o ≡ done made → (p : Program) × (o ≡ done p) × (made.length ≡ length (image_of p)) × (made.kept ≡ length p.blocks)
unfolding conversion_of
figures_are (refused code index) made e = let z : ◌≡◌ {A = ℕ} 0 1 = cc in absurd (omega arith)
figures_are (done p) made e =
    let same : figures (image_length p) (length p.blocks) ≡ made = cc in
    (p, refl, rw length_image (sym (ap (λ (made : Figures). made.length) same)), sym (ap (λ (made : Figures). made.kept) same))

-- Wherever a converter keeps the promise its figures are not made up: the image's length, and how many sections are kept.
pub figures_cannot_be_made_up : (c : Converter) (o : Options) (f out : List ℕ) (made : Figures) → Keeps c o f out → c.answer o f out ≡ done made → (made.length ≡ length (image_of (program_of (coff_source o f)))) × (made.kept ≡ length (blocks_of (coff_source o f)))
unfolding program_of
figures_cannot_be_made_up c o f out made k e =
    let a = figures_are (converting o f (length out)) made (sym k.0 ∙ e) in
    let is = conversion_is_kept o f (length out) a.0 a.1 in
    (rw is a.2, a.3 ∙ ap (λ (p : Program). length p.blocks) (sym is))
