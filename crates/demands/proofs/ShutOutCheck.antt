-- Wrong checks that the promise shuts out: each breaks it on a stated file and image, where what the promise says can be computed, with any options that spare the file.
use Prim.Native.Nat.{ℕ}
use mathlib.Core.Path.{◌≡◌, refl, sym, ◌∙◌}
use mathlib.Core.Bool.{false}
use mathlib.Core.List.{List, [], ◌∷◌}
use native.Mathlib.Omega.{arith}
use Rattle.fields.specs.Rules.{Outcome, refused, done}
use Rattle.fields.specs.Options.{Options, plain}
use Rattle.fields.specs.Program.{Source, blocks_of}
use Rattle.patterns.specs.Taking.{star, takes_any}
use Rattle.patterns.specs.Row.{options_of}
use Rattle.coff.specs.Reading.{read_coff, coff_source}
use Rattle.image.specs.Order.{undone, written}
use Rattle.image.specs.Reading.{read_image, image_source}
use Rattle.compare.specs.Same.{byte, received}
use Rattle.compare.specs.Checking.{checking}
use Rattle.demands.specs.Promises.{Checks}
use Rattle.entries.specs.Bench.{result_of, none, file_a, file_bare, image_cut}
use Rattle.demands.specs.Spared.{Passes}
use Rattle.demands.proofs.Passing.{empty_undone}
use Rattle.demands.proofs.LeftOut.{spared_reads, spared_checks, spared_checks_written}
use Rattle.demands.proofs.SparedFiles.{spares_A, spares_bare}

-- What the promise says of checks against A, and against the file of which nothing is kept.

plain_bare : checking plain file_bare (none 8) ≡ done tt
unfolding result_of
plain_bare = refl

plain_run : checking plain file_a (image_cut 0) ≡ refused 41 0
unfolding result_of
plain_run = refl

plain_absent : checking plain file_a (none 8) ≡ refused 41 0
unfolding result_of
plain_absent = refl

both_read : (read_coff plain file_a ≡ done (coff_source plain file_a)) × (read_image (none 8) ≡ done (image_source (none 8)))
unfolding result_of
both_read = (refl, refl)

same_entry : (coff_source plain file_a).entry ≡ (image_source (none 8)).entry
unfolding result_of
same_entry = refl

nothing_received : (a v r : ℕ) → received (blocks_of (image_source (none 8))) a ≡ byte v r → ⊥
unfolding result_of
nothing_received a v r h = let z : ◌≡◌ {A = ℕ} 0 1 = cc in omega arith

-- With any options that pass: a check that never says "same".
module _ (check : Options → List ℕ → List ℕ → Outcome (Unit {0})) (o : Options) (passes : Passes o) where
  pub cannot_never_say_same : ((file image : List ℕ) → check o file image ≡ done tt → ⊥) → Checks o file_bare (none 8) (check o file_bare (none 8)) → ⊥
  cannot_never_say_same wrong k = wrong file_bare (none 8) (k.0 ∙ rw (spared_checks o file_bare (spares_bare o passes) (none 8), empty_undone o.order) plain_bare)

-- With those that besides do not take the empty name, which A's section has.
module _ (check : Options → List ℕ → List ℕ → Outcome (Unit {0})) (o : Options) (passes : Passes o) (spares : takes_any o.patterns [] ≡ false) where
  abbrev another_run : List ℕ
  another_run = written o.order (image_cut 0)

  run_differs : checking o file_a another_run ≡ refused 41 0
  run_differs = rw (spared_checks_written o file_a (spares_A o passes spares) (image_cut 0)) plain_run

  absent_differs : checking o file_a (none 8) ≡ refused 41 0
  absent_differs = rw (spared_checks o file_a (spares_A o passes spares) (none 8), empty_undone o.order) plain_absent

  -- a check that always says "same"
  pub cannot_always_say_same : ((file image : List ℕ) → check o file image ≡ done tt) → Checks o file_a (written o.order (image_cut 0)) (check o file_a (written o.order (image_cut 0))) → ⊥
  cannot_always_say_same wrong k =
      let e : done tt ≡ refused 41 0 = sym (wrong file_a another_run) ∙ k.0 ∙ run_differs in
      let z : ◌≡◌ {A = ℕ} 0 1 = cc in
      omega arith

  -- one that only compares the image's bytes with the file: it says "same" wherever each of them is the file's
  pub cannot_look_at_the_image_alone :
      (
      (file image : List ℕ) (s t : Source)
      → read_coff o file ≡ done s
      → read_image (undone o.order image) ≡ done t
      → s.entry ≡ t.entry
      → ((a v r : ℕ) → received (blocks_of t) a ≡ byte v r → received (blocks_of s) a ≡ byte v r)
      → check o file image ≡ done tt)
      → Checks o file_a (none 8) (check o file_a (none 8))
      → ⊥
  cannot_look_at_the_image_alone wrong k =
      let reads = spared_reads o file_a (spares_A o passes spares) ∙ both_read.0 in
      let says = wrong file_a (none 8) (coff_source plain file_a) (image_source (none 8)) reads (rw (empty_undone o.order) both_read.1) same_entry (λ a v r h. absurd (nothing_received a v r h)) in
      let e : done tt ≡ refused 41 0 = sym says ∙ k.0 ∙ absent_differs in
      let z : ◌≡◌ {A = ℕ} 0 1 = cc in
      omega arith

-- One that does not look at what is asked: where a star takes every name the image without a block is "same" with A, and else it is not.

starred_same : checking (options_of (star ∷ [])) file_a (none 8) ≡ done tt
unfolding result_of
starred_same = refl

pub cannot_check_without_what_is_asked :
    (check : Options → List ℕ → List ℕ → Outcome (Unit {0}))
    → ((o o' : Options) (file image : List ℕ) → check o file image ≡ check o' file image)
    → Checks plain file_a (none 8) (check plain file_a (none 8))
    → Checks (options_of (star ∷ [])) file_a (none 8) (check (options_of (star ∷ [])) file_a (none 8))
    → ⊥
cannot_check_without_what_is_asked check wrong k l =
    let e : done tt ≡ refused 41 0 = sym starred_same ∙ sym l.0 ∙ wrong (options_of (star ∷ [])) plain file_a (none 8) ∙ k.0 ∙ plain_absent in
    let z : ◌≡◌ {A = ℕ} 0 1 = cc in
    omega arith
