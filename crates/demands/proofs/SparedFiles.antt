-- Files on which wrong answers are tried. Options that pass spare the one of which nothing is kept; those that besides do not take the empty name spare the others.
use Prim.Native.Nat.{ℕ, zero, suc, ◌<◌}
use mathlib.Core.Path.{◌≡◌, refl, sym}
use mathlib.Core.Bool.{true, false, true≢false}
use mathlib.Core.List.{[]}
use native.Mathlib.Omega.{arith}
use Rattle.fields.specs.Options.{Options}
use Rattle.patterns.specs.Taking.{takes_any}
use Rattle.coff.specs.File.{section_of}
use Rattle.coff.specs.Kept.{is_kept}
use Rattle.coff.specs.Names.{name_of, has_unreadable_name}
use Rattle.entries.specs.Bench.{result_of, file_a, file_bare}
use Rattle.entries.specs.BenchFiles.{flagged, file_two}
use Rattle.demands.specs.Spared.{Passes, Spares}

below_one : (P : ℕ → Type 0) → P 0 → (i : ℕ) → i < 1 → P i
below_one P p zero h = p
below_one P p (suc i) h = absurd (omega arith)

below_two : (P : ℕ → Type 0) → P 0 → P 1 → (i : ℕ) → i < 2 → P i
below_two P p q zero h = p
below_two P p q (suc i) h = below_one (λ k. P (suc k)) q i (omega arith)

-- The one section of the bare file is not kept, so that its name is never asked for.
pub spares_bare : (o : Options) → Passes o → Spares o file_bare
unfolding result_of
spares_bare o passes =
    record {
      passes = passes;
      named = below_one (λ i. is_kept (section_of file_bare i) ≡ true → has_unreadable_name file_bare i ≡ false) (λ k. refl);
      spared = below_one (λ i. is_kept (section_of file_bare i) ≡ true → takes_any o.patterns (name_of file_bare i) ≡ false) (λ k. absurd (true≢false (sym k)));
    }

-- The others have sections that are kept, with empty names.
module _ (o : Options) (passes : Passes o) (spares : takes_any o.patterns [] ≡ false) where
  -- A, whatever stands in its flags, and A itself
  pub spares_flagged : (n : ℕ) → Spares o (flagged n)
  unfolding result_of
  spares_flagged n =
      record {
        passes = passes;
        named = below_one (λ i. is_kept (section_of (flagged n) i) ≡ true → has_unreadable_name (flagged n) i ≡ false) (λ k. refl);
        spared = below_one (λ i. is_kept (section_of (flagged n) i) ≡ true → takes_any o.patterns (name_of (flagged n) i) ≡ false) (λ k. spares);
      }

  pub spares_A : Spares o file_a
  spares_A = spares_flagged 0x20

  pub spares_two : Spares o (file_two 0x405)
  unfolding result_of
  spares_two =
      record {
        passes = passes;
        named = below_two (λ i. is_kept (section_of (file_two 0x405) i) ≡ true → has_unreadable_name (file_two 0x405) i ≡ false) (λ k. refl) (λ k. refl);
        spared = below_two (λ i. is_kept (section_of (file_two 0x405) i) ≡ true → takes_any o.patterns (name_of (file_two 0x405) i) ≡ false) (λ k. spares) (λ k. spares);
      }
