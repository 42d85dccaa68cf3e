-- The answer of a listing: the file's refusal, rule 15, or the text.
use Prim.Native.Nat.{ℕ, ◌≤◌}
use mathlib.Core.Path.{◌≡◌, refl, ◌∙◌}
use mathlib.Core.Bool.{true}
use mathlib.Core.List.{List}
use native.Mathlib.Omega.{arith}
use lib.Dec.{ltb}
use lib.ListN.{length}
use Rattle.fields.specs.Rules.{Outcome, refused, done, unless, and_then}
use Rattle.fields.specs.Answer.{answer_of}
use Rattle.fields.specs.Program.{Source}
use Rattle.fields.proofs.TestLaws.{tests}
use Rattle.fields.proofs.RuleLaws.{broken, silent_done}
use Rattle.coff.specs.File.{section_count}
use Rattle.fields.specs.Options.{plain}
use Rattle.coff.specs.Reading.{read_coff}
use Rattle.coff.specs.Answer.{headers_in, headers_of}
use Rattle.coff.specs.declared.parts.Coff.{Coff}
use Rattle.coff.proofs.AcceptedLaws.{file_reads}
use Rattle.lines.specs.Handed.{text_in}
use Rattle.lines.specs.Text.{text_of}
use Rattle.lines.specs.Listing.{text_rules, listing, listing_numbers, listed_of, numbers_of_listing, buffer_after}

-- Rule 15, as its test came out.
module _ (text : List ℕ) (room : ℕ) where
  pub too_short : ltb room (length text) ≡ true → unless (text_rules text room) text ≡ refused 15 0
  too_short over = broken 0 (text_rules text room) text (tt, (over, refl, refl))

  pub fits : length text ≤ room → unless (text_rules text room) text ≡ done text
  fits h = silent_done (text_rules text room) text (omega (arith, tests))

-- Rule 15 comes after those of the file.
module _ (f : List ℕ) (room : ℕ) where
  pub refusal_stays : {code index : ℕ} → read_coff plain f ≡ refused code index → listing f room ≡ refused code index
  unfolding listing and_then
  refusal_stays h = rw h

  pub file_refused : {code index : ℕ} → read_coff plain f ≡ refused code index → (buffer : List ℕ) → (refused code index ≡ listed_of (listing f room)) × (buffer ≡ buffer_after (listing f room) buffer)
  unfolding listed_of buffer_after
  file_refused h buffer = rw (refusal_stays h) (refl, refl)

  pub asked : {s : Source} → read_coff plain f ≡ done s → listing f room ≡ unless (text_rules (text_of (section_count f) s) room) (text_of (section_count f) s)
  unfolding listing and_then
  asked read = rw read

  pub file_asked : (file : Coff) → done (headers_in file) ≡ headers_of plain f → file.bytes.now ≡ f → listing f room ≡ unless (text_rules (text_in file) room) (text_in file)
  file_asked file h e = asked (file_reads plain f file h e) ∙ rw e

-- the numbers of an answer are those of the outcome
pub numbers_are : (o : Outcome (List ℕ)) {r : Outcome ℕ} → r ≡ listed_of o → numbers_of_listing r ≡ listing_numbers o
unfolding listed_of numbers_of_listing answer_of
numbers_are (refused code index) e = rw e
numbers_are (done text) e = rw e
