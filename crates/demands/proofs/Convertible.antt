-- What conversion makes: it is not refused just where rules 1 to 17 and 33 allow it, and then its image reads back as the file's kept sections.
use Prim.Native.Nat.{ℕ, ◌≤◌}
use mathlib.Core.Path.{◌≡◌, refl, ◌∙◌}
use mathlib.Core.List.{List}
use native.Mathlib.Omega.{arith}
use borrow.Author.Tests.{ltb-false, le-ltb}
use Rattle.fields.specs.Number.{Bytes}
use Rattle.fields.specs.Rules.{Outcome, refused, done, unless, and_then}
use Rattle.fields.specs.Options.{Options, option_rules}
use Rattle.fields.specs.Program.{Program, Source, program_of}
use Rattle.fields.proofs.RuleLaws.{silent_done, done_silent, first_silent, first_done}
use Rattle.coff.specs.Reading.{coff_source, read_coff}
use Rattle.image.specs.Layout.{image_of, image_length}
use Rattle.image.specs.Converting.{room_rules, writing, converting}
use Rattle.image.specs.Reading.{read_image}
use Rattle.demands.specs.Valid.{Valid, counted}
use Rattle.demands.specs.Spared.{Passes}
use Rattle.demands.proofs.RoundTrip.{written_reads_back}
use Rattle.demands.proofs.CoffWithin.{coff_is_kept, coff_is_valid}

-- rules 17 and 33 let pass what is asked for, rules 1 to 13 and 16 accept the file, its image is within rule 14, and the output within rule 15
pub record Convertible (o : Options) (f : List ℕ) (room : ℕ) (p : Program) : Type 0 where
  pub asked : Passes o
  pub accepted : read_coff o f ≡ done (coff_source o f)
  pub is : program_of (coff_source o f) ≡ p
  pub short : image_length p ≤ 16777216
  pub fits : image_length p ≤ room

pub converts : (o : Options) (f : List ℕ) (room : ℕ) (p : Program) → Convertible o f room p → converting o f room ≡ done p
unfolding converting writing and_then
converts o f room p c =
    first_silent (option_rules o) _ c.asked
    ∙ rw (c.accepted, c.is) (silent_done (room_rules p room) p (le-ltb _ _ c.short, (le-ltb _ _ c.fits, tt)))

pub converted : (o : Options) (f : List ℕ) (room : ℕ) (p : Program) → converting o f room ≡ done p → Convertible o f room p
unfolding converting writing and_then
converted o f room p made = let first = first_done (option_rules o) (writing (read_coff o f) room) made in go first.0 (read_coff o f) refl first.1
  where
    go : Passes o → (out : Outcome Source) → read_coff o f ≡ out → and_then out (λ s. unless (room_rules (program_of s) room) (program_of s)) ≡ done p → Convertible o f room p
    go pass (refused code index) e k = let z : ◌≡◌ {A = ℕ} 0 1 = cc in absurd (omega arith)
    go pass (done src) e k =
        let q = done_silent (room_rules (program_of src) room) (program_of src) p k in
        let s = coff_is_kept o f src e in
        record {
          asked = pass;
          accepted = rw s e;
          is = rw s q.1;
          short = rw q.1 at (ltb-false 16777216 (image_length (program_of src)) q.0.0);
          fits = rw q.1 at (ltb-false room (image_length (program_of src)) q.0.1.0);
        }

-- What conversion makes is the file's entry point and kept sections, in the order of their headers ..
pub conversion_is_kept : (o : Options) (f : List ℕ) (room : ℕ) (p : Program) → converting o f room ≡ done p → program_of (coff_source o f) ≡ p
conversion_is_kept o f room p made = (converted o f room p made).is

-- .. it is within the rules ..
pub conversion_is_valid : (o : Options) (f : List ℕ) (room : ℕ) (p : Program) → Bytes f → converting o f room ≡ done p → Valid p
conversion_is_valid o f room p bytes made =
    let c = converted o f room p made in
    rw c.is at (coff_is_valid o f (coff_source o f) bytes c.accepted (rw c.is c.short))

-- .. and its image reads back as just that.
pub conversion_reads_back : (o : Options) (f : List ℕ) (room : ℕ) (p : Program) → Bytes f → converting o f room ≡ done p → read_image (image_of p) ≡ done (counted p)
conversion_reads_back o f room p bytes made = written_reads_back p (conversion_is_valid o f room p bytes made)
