-- What measuring tells is what conversion does: the same refusals but rule 15, and a room of the measured length is enough, and no shorter one.
use Prim.Native.Nat.{ℕ, ◌<◌, ◌≤◌}
use mathlib.Core.Path.{◌≡◌, refl, ◌∙◌}
use mathlib.Core.List.{List, [], ◌∷◌}
use native.Mathlib.Omega.{arith}
use lib.Dec.{ltb}
use borrow.Author.Tests.{ltb-false}
use Rattle.fields.specs.Rules.{Rule, rule, Outcome, refused, done, unless, and_then, Silent, rules_first}
use Rattle.fields.specs.Options.{Options, option_rules}
use Rattle.fields.specs.Program.{Program, Source, program_of}
use Rattle.fields.proofs.TestLaws.{tests}
use Rattle.fields.proofs.RuleLaws.{broken, silent_done, done_silent, refused_front, first_silent, first_done}
use Rattle.coff.specs.Reading.{read_coff}
use Rattle.image.specs.Layout.{image_length}
use Rattle.image.specs.Converting.{length_rules, room_rules, writing, sizing, converting, measuring, conversion_of, numbers_of_conversion}
use Rattle.scanboot.specs.Bounds.{SmallConversion}
use Rattle.scanboot.proofs.AnswerLaws.{measured_small}
use Rattle.demands.specs.Promises.{GivesMeasure}
use Rattle.demands.specs.Unpacking.{unpacked_conversion}
use Rattle.demands.specs.Rebuilding.{figure}
use Rattle.demands.proofs.Unpacks.{measured_unpacks}

-- rule 15 stands behind rule 14
after_reading : (source : Outcome Source) (room : ℕ) {code index : ℕ} → sizing source ≡ refused code index → writing source room ≡ refused code index
unfolding sizing writing and_then
after_reading (refused c i) room e = e
after_reading (done s) room e = refused_front (length_rules (program_of s)) (rule (ltb room (image_length (program_of s))) 15 0 ∷ []) (program_of s) (program_of s) e

-- the same rules stand before both
after_options : (rs : List Rule) (source : Outcome Source) (room : ℕ) {code index : ℕ} → rules_first rs (sizing source) ≡ refused code index → rules_first rs (writing source room) ≡ refused code index
unfolding rules_first and_then
after_options rs source room {code} {index} e = go (unless rs (tt {0})) e
  where
    go : (first : Outcome (Unit {0})) → and_then first (λ (u : Unit {0}). sizing source) ≡ refused code index → and_then first (λ (u : Unit {0}). writing source room) ≡ refused code index
    go (refused c i) k = cc
    go (done u) k = after_reading source room k

-- What is not measured is not converted, for the same reason, whatever the room.
pub measured_refuses : (o : Options) (f : List ℕ) (room : ℕ) {code index : ℕ} → measuring o f ≡ refused code index → converting o f room ≡ refused code index
unfolding measuring converting
measured_refuses o f room e = after_options (option_rules o) (read_coff o f) room e

-- A file that is measured has the program p, whose image is within rule 14.
module _ (o : Options) (f : List ℕ) (p : Program) (measured : measuring o f ≡ done p) where
  first : Silent (option_rules o) × (sizing (read_coff o f) ≡ done p)
  unfolding measuring
  first = first_done (option_rules o) (sizing (read_coff o f)) measured

  source : (s : Source) × (read_coff o f ≡ done s) × (program_of s ≡ p) × (image_length p ≤ 16777216)
  unfolding sizing and_then
  source = go (read_coff o f) refl first.1
    where
      go : (out : Outcome Source) → read_coff o f ≡ out → and_then out (λ s. unless (length_rules (program_of s)) (program_of s)) ≡ done p → (s : Source) × (read_coff o f ≡ done s) × (program_of s ≡ p) × (image_length p ≤ 16777216)
      go (refused code index) e k = let z : ◌≡◌ {A = ℕ} 0 1 = cc in absurd (omega arith)
      go (done s) e k =
          let q = done_silent (length_rules (program_of s)) (program_of s) p k in
          (s, e, q.1, rw q.1 at (ltb-false 16777216 (image_length (program_of s)) q.0.0))

  asked : (room : ℕ) → converting o f room ≡ unless (room_rules p room) p
  unfolding converting writing and_then
  asked room = first_silent (option_rules o) _ first.0 ∙ rw (source.1, source.2)

  -- As much room as was measured is enough ..
  pub measured_converts : (room : ℕ) → image_length p ≤ room → converting o f room ≡ done p
  measured_converts room h = asked room ∙ silent_done (room_rules p room) p (omega (arith, tests, source.3))

  -- .. and less is rule 15.
  pub measured_is_least : (room : ℕ) → room < image_length p → converting o f room ≡ refused 15 0
  measured_is_least room h = asked room ∙ broken 1 (room_rules p room) p (omega (arith, tests, source.3))

-- What C gets, with a row of patterns or without: where the code is 0, as much room as the length says is enough.
module _ (o : Options) (f : List ℕ) (r : ℕ) (given : GivesMeasure o f r) where
  told : unpacked_conversion r ≡ numbers_of_conversion (conversion_of (measuring o f))
  told = rw given (measured_unpacks o f)

  by_outcome : (out : Outcome Program) → measuring o f ≡ out → SmallConversion (conversion_of out) → (numbers_of_conversion (conversion_of out)).code ≡ 0 → (p : Program) × (measuring o f ≡ done p) × (figure (numbers_of_conversion (conversion_of out)) 0 ≡ image_length p)
  unfolding conversion_of numbers_of_conversion
  by_outcome (refused code index) e small zero = absurd (omega (arith, small.real))
  by_outcome (done p) e small zero = (p, e, refl)

  pub calls_measure : (unpacked_conversion r).code ≡ 0 → (p : Program) × ((figure (unpacked_conversion r) 0 ≡ image_length p) × ((room : ℕ) → image_length p ≤ room → converting o f room ≡ done p))
  calls_measure zero =
      let q = by_outcome (measuring o f) refl (measured_small o f) (rw told at zero) in
      (q.0, (rw told q.2, measured_converts o f q.0 q.1))
