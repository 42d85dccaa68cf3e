-- Programs that still read a file as before request Two are shut out: each breaks its promise on A without a type, of which that reading keeps nothing, with any
-- options that pass and do not take the empty name, which A's section has.
use Prim.Native.Nat.{ℕ, zero, suc}
use mathlib.Core.Path.{◌≡◌, refl, ap, sym, ◌∙◌}
use mathlib.Core.Bool.{false, and-false}
use mathlib.Core.List.{List, []}
use native.Mathlib.Omega.{arith}
use lib.ListN.{length}
use lib.Dec.{ltb}
use Rattle.fields.specs.Rules.{Outcome, refused, done, rules_first}
use Rattle.fields.specs.Options.{Options, plain, option_rules}
use Rattle.fields.proofs.RuleLaws.{first_silent}
use Rattle.patterns.specs.Taking.{takes_any}
use Rattle.image.specs.Order.{undone}
use Rattle.image.specs.Reading.{read_image}
use Rattle.image.specs.Converting.{writing, converting, conversion_of}
use Rattle.loader.specs.Loading.{loading, loading_coff, loading_of}
use Rattle.compare.specs.Checking.{comparing, checking}
use Rattle.entries.specs.Bench.{result_of, none, file_a, AA}
use Rattle.entries.specs.BenchFiles.{flagged}
use Rattle.demands.specs.Promises.{LoadsCoff, Checks}
use Rattle.demands.specs.Typed.{keeps_typed, lacks_name_typed, read_typed, NoneKeptPlain}
use Rattle.demands.specs.Spared.{Passes}
use Rattle.demands.proofs.Passing.{empty_undone}
use Rattle.demands.proofs.LeftOut.{spared_converts, spared_loads, spared_checks}
use Rattle.demands.proofs.SparedFiles.{spares_flagged}
use Rattle.demands.proofs.ShutOutConversion.{Converter, Keeps, figures, length_of}
use Rattle.demands.proofs.ShutOutLoad.{Loader}

-- There are files of which no section is kept for being plain: A is one.
pub none_of_A : NoneKeptPlain file_a
unfolding result_of
none_of_A zero h = refl
none_of_A (suc i) h = absurd (omega arith)

-- What the promises say of A without a type.

plain_converts : conversion_of (converting plain (flagged 0) 28) ≡ done (figures 28 1)
unfolding result_of
plain_converts = refl

plain_loads : loading_of (loading_coff plain (flagged 0) 0x400 8) ≡ done 5
unfolding result_of
plain_loads = refl

plain_checks : checking plain (flagged 0) (none 8) ≡ refused 41 0
unfolding result_of
plain_checks = refl

module _ (o : Options) (passes : Passes o) (spares : takes_any o.patterns [] ≡ false) where
  converts : conversion_of (converting o (flagged 0) 28) ≡ done (figures 28 1)
  converts = rw (spared_converts o (flagged 0) (spares_flagged o passes spares 0) 28) plain_converts

  loads : loading_of (loading_coff o (flagged 0) 0x400 8) ≡ done 5
  loads = rw (spared_loads o (flagged 0) (spares_flagged o passes spares 0) 0x400 8) plain_loads

  checks : checking o (flagged 0) (none 8) ≡ refused 41 0
  checks = rw (spared_checks o (flagged 0) (spares_flagged o passes spares 0) (none 8), empty_undone o.order) plain_checks

  -- What was read of it before: no section, and no name was wanted.
  wanted_none : lacks_name_typed o (flagged 0) 0 ≡ false
  unfolding result_of lacks_name_typed
  wanted_none = and-false (ltb 0 (length o.patterns))

  read_before : read_typed o (flagged 0) ≡ done (record { entry = 0; parts = [] })
  unfolding result_of keeps_typed read_typed
  read_before = rw wanted_none

  converted_before : conversion_of (rules_first (option_rules o) (writing (read_typed o (flagged 0)) 28)) ≡ done (figures 8 0)
  unfolding result_of
  converted_before = rw (first_silent (option_rules o) (writing (read_typed o (flagged 0)) 28) passes, read_before)

  loaded_before : loading_of (rules_first (option_rules o) (loading (read_typed o (flagged 0)) 0x400 8)) ≡ done 0
  unfolding result_of
  loaded_before = rw (first_silent (option_rules o) (loading (read_typed o (flagged 0)) 0x400 8) passes, read_before)

  checked_before : rules_first (option_rules o) (comparing (read_typed o (flagged 0)) (read_image (undone o.order (none 8)))) ≡ done tt
  unfolding result_of
  checked_before =
      ap (λ (image : List ℕ). rules_first (option_rules o) (comparing (read_typed o (flagged 0)) (read_image image))) (empty_undone o.order)
      ∙ rw (first_silent (option_rules o) (comparing (read_typed o (flagged 0)) (read_image (none 8))) passes, read_before)

  pub cannot_convert_as_before : (c : Converter) → ((file out : List ℕ) → c.answer o file out ≡ conversion_of (rules_first (option_rules o) (writing (read_typed o file) (length out)))) → Keeps c o (flagged 0) (AA 28) → ⊥
  cannot_convert_as_before c wrong k =
      let e : done (figures 28 1) ≡ done (figures 8 0) = sym converts ∙ sym k.0 ∙ wrong (flagged 0) (AA 28) ∙ converted_before in
      let size : ◌≡◌ {A = ℕ} 28 8 = ap length_of e in
      omega arith

  pub cannot_load_as_before :
      (l : Loader)
      → ((file : List ℕ) (base : ℕ) (window : List ℕ) → l.answer file base window ≡ loading_of (rules_first (option_rules o) (loading (read_typed o file) base (length window))))
      → LoadsCoff o (flagged 0) 0x400 (AA 8) (l.answer (flagged 0) 0x400 (AA 8)) (l.left (flagged 0) 0x400 (AA 8))
      → ⊥
  cannot_load_as_before l wrong k =
      let e : ◌≡◌ {A = Outcome ℕ} (done 5) (done 0) = sym loads ∙ sym k.0 ∙ wrong (flagged 0) 0x400 (AA 8) ∙ loaded_before in
      let size : ◌≡◌ {A = ℕ} 5 0 = cc in
      omega arith

  pub cannot_check_as_before : (check : List ℕ → List ℕ → Outcome (Unit {0})) → ((file image : List ℕ) → check file image ≡ rules_first (option_rules o) (comparing (read_typed o file) (read_image (undone o.order image)))) → Checks o (flagged 0) (none 8) (check (flagged 0) (none 8)) → ⊥
  cannot_check_as_before check wrong k =
      let e : refused 41 0 ≡ done tt = sym checks ∙ sym k.0 ∙ wrong (flagged 0) (none 8) ∙ checked_before in
      let z : ◌≡◌ {A = ℕ} 0 1 = cc in
      omega arith
