-- Wrong loads that the promises shut out, of an image and of a COFF file: each breaks its promise on a stated call, where what the promise says can be computed.
use Prim.Native.Nat.{ℕ, ◌+◌}
use mathlib.Core.Path.{◌≡◌, refl, ap, sym, ◌∙◌}
use mathlib.Core.Bool.{false}
use mathlib.Core.List.{List, [], ◌∷◌}
use native.Mathlib.Omega.{arith}
use lib.ListN.{length, take, get_or}
use Rattle.fields.specs.Number.{Bytes}
use Rattle.fields.specs.Rules.{Outcome, refused, done}
use Rattle.fields.specs.Options.{Options, plain}
use Rattle.fields.specs.Program.{Block}
use Rattle.patterns.specs.Taking.{star, takes_any}
use Rattle.patterns.specs.Row.{options_of}
use Rattle.loader.specs.Placing.{placed, sizes_of}
use Rattle.loader.specs.Loading.{loading_image, loading_coff, loading_of, window_after}
use Rattle.loader.specs.Addresses.{is_written, count_below}
use Rattle.image.specs.Order.{written}
use Rattle.demands.proofs.Readers.{image_loaded, coff_loaded}
use Rattle.demands.specs.Spared.{Passes}
use Rattle.demands.proofs.Passing.{written_loads}
use Rattle.demands.proofs.AsBefore.{plain_loads_image}
use Rattle.demands.specs.Promises.{Loads, LoadsImage, LoadsCoff}
use Rattle.entries.specs.Bench.{result_of, none, file_a, file_bare, image_a, image_cut, AA}
use Rattle.entries.specs.BenchFiles.{file_two}
use Rattle.demands.proofs.LeftOut.{spared_loads}
use Rattle.demands.proofs.SparedFiles.{spares_A, spares_bare, spares_two}

-- a loader: what it answers for an input, a base and a window, and what it leaves in the window
pub record Loader : Type 0 where
  pub answer : List ℕ → ℕ → List ℕ → Outcome ℕ
  pub left : List ℕ → ℕ → List ℕ → List ℕ

-- what is computed of three inputs, into eight bytes AA at 400h: A, one of several parts, and one of none
pub record Examples (loading : List ℕ → ℕ → ℕ → Outcome (List Block)) : Type 0 where
  pub whole : List ℕ
  pub several : List ℕ
  pub bare : List ℕ
  pub whole_answer : loading_of (loading whole 0x400 8) ≡ done 5
  pub whole_left : window_after (loading whole 0x400 8) 0x400 (AA 8) ≡ 0x11 ∷ 0x22 ∷ 0x33 ∷ 0x44 ∷ 0x55 ∷ AA 3
  pub bare_answer : loading_of (loading bare 0x400 8) ≡ done 0
  pub parts : List Block
  pub several_loads : loading several 0x400 8 ≡ done parts
  -- at this place the first part alone leaves another byte
  pub place : ℕ
  pub differs : get_or (placed 0x400 (AA 8) (take 1 parts)) place 0 ≡ get_or (window_after (done parts) 0x400 (AA 8)) place 0 → ⊥

-- images: A's, that cut in two with the later part first, and one with no block
of_plain_images : Examples (loading_image plain)
unfolding result_of
of_plain_images =
    record {
      whole = image_a;
      several = image_cut 4;
      bare = none 8;
      whole_answer = refl;
      whole_left = refl;
      bare_answer = refl;
      parts =
          record { load = 0x404; run = 0x80000004; bytes = 0x55 ∷ [] }
          ∷ record { load = 0x400; run = 0x80000000; bytes = 0x11 ∷ 0x22 ∷ 0x33 ∷ 0x44 ∷ [] }
          ∷ [];
      several_loads = refl;
      place = 0;
      differs = λ e. omega arith;
    }

-- of all of them with any options that pass, each written in their order
pub of_images : (o : Options) → Passes o → Examples (loading_image o)
unfolding of_plain_images
of_images o passes =
    let plain-images = of_plain_images in
    let same : (image : List ℕ) → loading_image o (written o.order image) 0x400 8 ≡ loading_image plain image 0x400 8 = λ image. written_loads o passes image 0x400 8 ∙ sym (plain_loads_image image 0x400 8) in
    record {
      whole = written o.order image_a;
      several = written o.order (image_cut 4);
      bare = written o.order (none 8);
      whole_answer = rw (same image_a) plain-images.whole_answer;
      whole_left = rw (same image_a) plain-images.whole_left;
      bare_answer = rw (same (none 8)) plain-images.bare_answer;
      parts = plain-images.parts;
      several_loads = rw (same (image_cut 4)) plain-images.several_loads;
      place = plain-images.place;
      differs = plain-images.differs;
    }

-- COFF files: A, that with a second section, and that of which none is kept
of_plain_files : Examples (loading_coff plain)
unfolding result_of
of_plain_files =
    record {
      whole = file_a;
      several = file_two 0x405;
      bare = file_bare;
      whole_answer = refl;
      whole_left = refl;
      bare_answer = refl;
      parts =
          record { load = 0x400; run = 0x80000000; bytes = 0x11 ∷ 0x22 ∷ 0x33 ∷ 0x44 ∷ 0x55 ∷ [] }
          ∷ record { load = 0x405; run = 0; bytes = 0x66 ∷ [] }
          ∷ [];
      several_loads = refl;
      place = 5;
      differs = λ e. omega arith;
    }

-- of the last one with any options that pass, and of all of them with options that besides do not take the empty name, which their kept sections have
pub bare_of_files : (o : Options) → Passes o → loading_of (loading_coff o file_bare 0x400 8) ≡ done 0
unfolding of_plain_files
bare_of_files o passes = rw (spared_loads o file_bare (spares_bare o passes) 0x400 8) of_plain_files.bare_answer

pub of_files : (o : Options) (passes : Passes o) (spares : takes_any o.patterns [] ≡ false) → Examples (loading_coff o)
unfolding of_plain_files
of_files o passes spares =
    let plain-files = of_plain_files in
    record {
      whole = file_a;
      several = file_two 0x405;
      bare = file_bare;
      whole_answer = rw (spared_loads o file_a (spares_A o passes spares) 0x400 8) plain-files.whole_answer;
      whole_left = rw (spared_loads o file_a (spares_A o passes spares) 0x400 8) plain-files.whole_left;
      bare_answer = bare_of_files o passes;
      parts = plain-files.parts;
      several_loads = rw (spared_loads o (file_two 0x405) (spares_two o passes spares) 0x400 8) plain-files.several_loads;
      place = plain-files.place;
      differs = plain-files.differs;
    }

-- Loaders of either kind; that one keeps its promise is `Loads`, which is `LoadsImage` or `LoadsCoff`. One that refuses everything, by an input of which
-- nothing is placed: `bare` of `of_images` with its answer, or the file of `bare_of_files`.
module _ (loading : List ℕ → ℕ → ℕ → Outcome (List Block)) (bare : List ℕ) (answer : loading_of (loading bare 0x400 8) ≡ done 0) (l : Loader) where
  pub cannot_refuse_every_load :
      ((input : List ℕ) (base : ℕ) (window : List ℕ) → (code : ℕ) × (index : ℕ) × (l.answer input base window ≡ refused code index))
      → Loads loading bare 0x400 (AA 8) (l.answer bare 0x400 (AA 8)) (l.left bare 0x400 (AA 8))
      → ⊥
  cannot_refuse_every_load wrong k =
      let no = wrong bare 0x400 (AA 8) in
      let q : ◌≡◌ {A = Outcome ℕ} (refused no.0 no.1) (done 0) = sym no.2 ∙ k.0 ∙ answer in
      let z : ◌≡◌ {A = ℕ} 0 1 = cc in
      omega arith

-- The others.
module _ (loading : List ℕ → ℕ → ℕ → Outcome (List Block)) (e : Examples loading) (l : Loader) where
  abbrev Keeps : List ℕ → Type 0
  Keeps input = Loads loading input 0x400 (AA 8) (l.answer input 0x400 (AA 8)) (l.left input 0x400 (AA 8))

  -- one that changes nothing
  pub cannot_change_nothing : ((input : List ℕ) (base : ℕ) (window : List ℕ) → l.left input base window ≡ window) → Keeps e.whole → ⊥
  cannot_change_nothing wrong k =
      omega (arith, ap (λ (w : List ℕ). get_or w 0 0) (sym (wrong e.whole 0x400 (AA 8)) ∙ k.1.1 ∙ e.whole_left))

  -- one that places the first block and only counts the rest
  pub cannot_place_the_first_alone :
      ((input : List ℕ) (base : ℕ) (window : List ℕ) (bs : List Block) → loading input base (length window) ≡ done bs → l.left input base window ≡ placed base window (take 1 bs))
      → Keeps e.several
      → ⊥
  cannot_place_the_first_alone wrong k =
      e.differs (ap (λ (w : List ℕ). get_or w e.place 0) (sym (wrong e.several 0x400 (AA 8) e.parts e.several_loads) ∙ (rw e.several_loads at k.1.1)))

  -- one whose figure is made up without the input
  pub cannot_make_up_the_figure :
      (g : ℕ → List ℕ → ℕ)
      → ((input : List ℕ) (base : ℕ) (window : List ℕ) (n : ℕ) → l.answer input base window ≡ done n → n ≡ g base window)
      → Keeps e.whole
      → Keeps e.bare
      → ⊥
  cannot_make_up_the_figure g wrong k m =
      omega (arith, wrong e.whole 0x400 (AA 8) 5 (k.0 ∙ e.whole_answer), wrong e.bare 0x400 (AA 8) 0 (m.0 ∙ e.bare_answer))

-- One of files that does not look at what is asked: of A nothing is placed where a star takes every name.

starred_answer : loading_of (loading_coff (options_of (star ∷ [])) file_a 0x400 8) ≡ done 0
unfolding result_of
starred_answer = refl

plain_answer : loading_of (loading_coff plain file_a 0x400 8) ≡ done 5
unfolding result_of
plain_answer = refl

pub cannot_load_without_what_is_asked :
    (l : Options → Loader)
    → ((o o' : Options) (file : List ℕ) (base : ℕ) (window : List ℕ) → (l o).answer file base window ≡ (l o').answer file base window)
    → LoadsCoff plain file_a 0x400 (AA 8) ((l plain).answer file_a 0x400 (AA 8)) ((l plain).left file_a 0x400 (AA 8))
    → LoadsCoff (options_of (star ∷ [])) file_a 0x400 (AA 8) ((l (options_of (star ∷ []))).answer file_a 0x400 (AA 8)) ((l (options_of (star ∷ []))).left file_a 0x400 (AA 8))
    → ⊥
cannot_load_without_what_is_asked l wrong k m =
    let e : ◌≡◌ {A = Outcome ℕ} (done 5) (done 0) = sym plain_answer ∙ sym k.0 ∙ wrong plain (options_of (star ∷ [])) file_a 0x400 (AA 8) ∙ m.0 ∙ starred_answer in
    let size : ◌≡◌ {A = ℕ} 5 0 = cc in
    omega arith

load_figure : (o : Outcome (List Block)) (n : ℕ) → loading_of o ≡ done n → (bs : List Block) × (o ≡ done bs) × (n ≡ sizes_of bs)
unfolding loading_of
load_figure (refused code index) n e = let z : ◌≡◌ {A = ℕ} 0 1 = cc in absurd (omega arith)
load_figure (done bs) n e = (bs, refl, cc)

-- Wherever a promise is kept, the figure is the number of addresses written.
module _ (input : List ℕ) (base : ℕ) (window : List ℕ) (r : Outcome ℕ) (after : List ℕ) (n : ℕ) (bytes : Bytes input) (placed-n : r ≡ done n) where
  pub image_figure_is_counted : (o : Options) → LoadsImage o input base window r after → (bs : List Block) × (loading_image o input base (length window) ≡ done bs) × (n ≡ count_below (λ i. is_written bs (base + i)) (length window))
  image_figure_is_counted o k =
      let a = load_figure (loading_image o input base (length window)) n (sym k.0 ∙ placed-n) in
      (a.0, a.1, a.2 ∙ (image_loaded o input base window a.0 bytes a.1).figure)

  pub coff_figure_is_counted : (o : Options) → LoadsCoff o input base window r after → (bs : List Block) × (loading_coff o input base (length window) ≡ done bs) × (n ≡ count_below (λ i. is_written bs (base + i)) (length window))
  coff_figure_is_counted o k =
      let a = load_figure (loading_coff o input base (length window)) n (sym k.0 ∙ placed-n) in
      (a.0, a.1, a.2 ∙ (coff_loaded o input base window a.0 bytes a.1).figure)
