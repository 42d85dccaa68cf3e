-- What is printed in each case of reading; and of every input that is read as it stands, the text of its own definition.
use Prim.Native.Nat.{ℕ, zero, suc, ◌-◌, ◌≤◌, ◌<◌, min}
use mathlib.Core.Path.{◌≡◌, refl, ◌∙◌}
use mathlib.Core.Bool.{Bool, true, false}
use mathlib.Core.List.{List}
use native.Mathlib.Omega.{arith}
use borrow.Author.Tests.{eq-eqb, ne_eqb, ltb-true, ltb-false}
use lib.Dec.{ltb, eqb}
use lib.ListN.{length, take}
use lib.Seq.{length-take-le, take_all}
use Rattle.std.specs.Prelude.{Option, None, Some}
use Rattle.fields.proofs.PatchLaws.{length-patch}
use Rattle.fields.specs.Rules.{Outcome, refused, done}
use Rattle.fields.specs.Patch.{patch}
use Rattle.fields.specs.Program.{Source}
use Rattle.fields.specs.Options.{plain}
use Rattle.coff.specs.File.{section_count}
use Rattle.coff.specs.Reading.{read_coff}
use Rattle.lines.specs.Text.{refusal_line, text_of, listing_of}
use Rattle.lines.specs.Listing.{listing, listed_of, buffer_after}
use Rattle.lines.specs.Output.{too_long, output_of, answered, unread, printed_of}
use Rattle.lines.specs.Put.{Prints}
use Rattle.lines.specs.declared.output.Stream.{Stream}
use Rattle.lines.proofs.TextLaws.{printed_refusal, printed_text, text_fits, listing_short}
use Rattle.lines.proofs.ListingLaws.{refusal_stays, asked, fits}

-- where there was more than could be read

pub printed_partial : (f : List ℕ) (more : ℕ) → 0 < more → length f < 65536 → printed_of f (Some more) ≡ unread
unfolding printed_of
printed_partial f zero m h = absurd (omega arith)
printed_partial f (suc more) m h = rw (ne_eqb (length f) 65536 (λ e. omega arith))

pub printed_over : (f : List ℕ) (more : ℕ) → 0 < more → length f ≡ 65536 → printed_of f (Some more) ≡ answered too_long
unfolding printed_of
printed_over f zero m e = absurd (omega arith)
printed_over f (suc more) m e = rw (eq-eqb _ _ e)

-- a buffer that every text fits: what listing answers and leaves there is the text, or makes room for the refusal's line
module _ (f old : List ℕ) (room : 16384 ≤ length old) where
  pub listed : {end : ℕ} {new : List ℕ} → done end ≡ listed_of (listing f (length old)) → new ≡ buffer_after (listing f (length old)) old → (end ≡ length (listing_of f)) × (new ≡ patch old 0 (listing_of f))
  unfolding listed_of buffer_after
  listed {end} {new} a b = go (read_coff plain f) refl
    where
      go : (o : Outcome Source) → read_coff plain f ≡ o → (end ≡ length (listing_of f)) × (new ≡ patch old 0 (listing_of f))
      go (refused code index) e =
          let q = rw (refusal_stays f (length old) e) at a in
          let z : ◌≡◌ {A = ℕ} 0 1 = cc in absurd (omega arith)
      go (done s) e =
          let d : listing f (length old) ≡ done (text_of (section_count f) s) = asked f (length old) e ∙ fits _ (length old) (text_fits f e (length old) room) in
          let q = rw d at a in
          rw (printed_text f e) (cc, rw d at b)

  pub listing_refused : {code index : ℕ} {new : List ℕ} → refused code index ≡ listed_of (listing f (length old)) → new ≡ buffer_after (listing f (length old)) old → (refusal_line code index ≡ listing_of f) × (new ≡ old)
  unfolding listed_of buffer_after
  listing_refused {code} {index} {new} a b = go (read_coff plain f) refl
    where
      go : (o : Outcome Source) → read_coff plain f ≡ o → (refusal_line code index ≡ listing_of f) × (new ≡ old)
      go (refused c i) e =
          let o = refusal_stays f (length old) e in
          let q = rw o at a in
          let x : code ≡ c = cc in
          let y : index ≡ i = cc in
          rw (printed_refusal f e, x, y) (refl, rw o at b)
      go (done s) e =
          let q = rw (asked f (length old) e ∙ fits _ (length old) (text_fits f e (length old) room)) at a in
          let z : ◌≡◌ {A = ℕ} 0 1 = cc in absurd (omega arith)

-- no text is longer than a listing may be, so that it lies wholly in the buffer

printed_short : (f : List ℕ) (more : Option ℕ) → length (printed_of f more).text ≤ 12091
unfolding printed_of answered unread
printed_short f None = omega arith
printed_short f (Some zero) = listing_short f
printed_short f (Some (suc more)) = go (eqb (length f) 65536) refl
  where
    go : (t : Bool) → eqb (length f) 65536 ≡ t → length (printed_of f (Some (suc more))).text ≤ 12091
    go true e = rw e (omega arith)
    go false e = rw e (omega arith)

pub prints_within : (f : List ℕ) (more : Option ℕ) {old new : List ℕ} {stream : Stream} {answer : ℕ} → Prints (printed_of f more) old stream answer new → 16384 ≤ length old → answer ≤ length new
prints_within f more {old} p room = rw (p.answers, p.holds, length-patch) (omega (arith, printed_short f more))

-- a whole input: its first 65,536 bytes, and as many of the rest as a further read has room for
pub output_printed : (input : List ℕ) (room : ℕ) → 0 < room → printed_of (take 65536 input) (Some (min (length input - 65536) room)) ≡ answered (output_of input)
unfolding output_of printed_of
output_printed input room h = go (ltb 65536 (length input)) refl
  where
    go : (t : Bool) → ltb 65536 (length input) ≡ t → printed_of (take 65536 input) (Some (min (length input - 65536) room)) ≡ answered (output_of input)
    go true e =
        let long = ltb-true 65536 (length input) e in
        let more : 0 < min (length input - 65536) room = omega arith in
        rw e (printed_over (take 65536 input) _ more (length-take-le 65536 input (omega arith)))
    go false e =
        let short = ltb-false 65536 (length input) e in
        let none : min (length input - 65536) room ≡ 0 = omega arith in
        rw (e, take_all 65536 input short, none)
