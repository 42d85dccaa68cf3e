-- The text of a file and what is printed of it: of a refusal, of a file that is not refused, and how long they may be.
use Prim.Native.Nat.{ℕ, ◌+◌, ◌≤◌, ◌<◌}
use mathlib.Core.Path.{◌≡◌, refl, sym, ◌∙◌}
use mathlib.Core.List.{List, ◌++◌}
use native.Mathlib.Omega.{arith}
use lib.ListN.{length, length-append}
use Rattle.fields.specs.Rules.{Outcome, refused, done}
use Rattle.fields.specs.Program.{Source, blocks_of_parts}
use Rattle.coff.specs.declared.Sections.{Sections}
use Rattle.coff.specs.File.{section_count}
use Rattle.fields.specs.Options.{plain}
use Rattle.coff.specs.Reading.{read_coff}
use Rattle.coff.specs.Parts.{parts_of, source_of, ReadOf}
use Rattle.coff.specs.declared.parts.Coff.{Coff}
use Rattle.coff.specs.Handed.{parts_in}
use Rattle.coff.proofs.PartLaws.{count_is, count_few}
use Rattle.coff.proofs.AcceptedLaws.{read_accepted}
use Rattle.coff.proofs.RefusalLaws.{refusal_small}
use Rattle.image.specs.Layout.{spans_of}
use Rattle.image.proofs.ConvertLaws.{length_is}
use Rattle.lines.specs.Text.{head_line, lines_of, image_line, refusal_line, text_of, listing_of}
use Rattle.image.specs.Converting.{Measured}
use Rattle.lines.specs.declared.length.Measure.{Measure}
use Rattle.lines.specs.Handed.{text_in}
use Rattle.lines.proofs.LineLaws.{head_short, image_short, refusal_short}
use Rattle.lines.proofs.PartLaws.{lines_short, blocks_short}

-- The text of a file that is read, with its two figures.
module _ (f : List ℕ) (s : Sections) (ok : ReadOf f s) (entry n kept : ℕ) (m : Measured (parts_of f s) n kept) where
  abbrev text : List ℕ
  text = text_of (section_count f) (source_of f s entry)

  parts_are : text ≡ head_line s.count kept entry ++ (lines_of (parts_of f s) ++ image_line n)
  unfolding text_of
  parts_are = rw (← (count_is ok), length_is f s entry, m.0, m.1)

  length_are : length text ≡ length (head_line s.count kept entry) + (length (lines_of (parts_of f s)) + length (image_line n))
  length_are = rw (parts_are, length-append, length-append)

-- .. as they are measured
module _ (m : Measure) where
  abbrev file : Coff
  file = m.file.now

  pub text_parts : text_in file ≡ head_line file.sections.count m.figures.kept file.entry ++ (lines_of (parts_in file) ++ image_line m.figures.length)
  text_parts = parts_are _ _ file.read file.entry _ _ m.measured

  pub length_text : length (text_in file) ≡ length (head_line file.sections.count m.figures.kept file.entry) + (length (lines_of (parts_in file)) + length (image_line m.figures.length))
  length_text = length_are _ _ file.read file.entry _ _ m.measured

-- What is printed.

pub printed_refusal : (f : List ℕ) {code index : ℕ} → read_coff plain f ≡ refused code index → listing_of f ≡ refusal_line code index
unfolding listing_of
printed_refusal f h = rw (h, listing_of)

pub printed_text : (f : List ℕ) {s : Source} → read_coff plain f ≡ done s → listing_of f ≡ text_of (section_count f) s
unfolding listing_of
printed_text f h = rw (h, listing_of)

-- How long they may be.

pub read_short : (f : List ℕ) (s : Sections) → ReadOf f s → (entry : ℕ) → length (text_of (section_count f) (source_of f s entry)) ≤ 12091
read_short f s ok entry =
    let n = 8 + spans_of (blocks_of_parts (parts_of f s)) in
    let kept = length (parts_of f s) in
    let few = count_few ok in
    let b = blocks_short f s ok s.count (omega arith) in
    let low : kept < 1000 = omega arith in
    let size : n < 10000000000 = omega arith in
    let body = lines_short f s ok s.count (omega arith) in
    omega (arith, length_are f s ok entry n kept (refl, refl), head_short s.count kept entry (omega arith) low, body, image_short n size)

done_is : {s t : Source} → ◌≡◌ {A = Outcome Source} (done s) (done t) → s ≡ t
done_is e = cc

pub text_short : (f : List ℕ) {s : Source} → read_coff plain f ≡ done s → length (text_of (section_count f) s) ≤ 12091
text_short f {s} e =
    let a = read_accepted plain f s e in
    rw (done_is (sym e ∙ a.reads)) (read_short f _ a.read_of _)

pub text_fits : (f : List ℕ) {s : Source} → read_coff plain f ≡ done s → (room : ℕ) → 16384 ≤ room → length (text_of (section_count f) s) ≤ room
text_fits f e room h = omega (arith, text_short f e)

-- every listing fits a buffer of 16,384 bytes
pub listing_short : (f : List ℕ) → length (listing_of f) ≤ 12091
listing_short f = go (read_coff plain f) refl
  where
    go : (o : Outcome Source) → read_coff plain f ≡ o → length (listing_of f) ≤ 12091
    go (refused code index) e =
        let s = refusal_small plain f e in
        rw (printed_refusal f e) (omega (arith, refusal_short code index (omega arith) (omega arith)))
    go (done source) e = rw (printed_text f e) (text_short f e)
