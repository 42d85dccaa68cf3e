-- What a reader of an accepted file may rely on: all that the rules rule out, said of its sections one by one.
use Prim.Native.Nat.{ℕ, ◌^◌, ◌<◌, ◌≤◌}
use mathlib.Core.Path.{◌≡◌, refl, ap, sym, ◌∙◌}
use mathlib.Core.Bool.{Bool, true, false, cond}
use mathlib.Core.List.{List, [], ◌∷◌, ◌++◌}
use lib.Dec.{eqb}
use borrow.Author.Tests.{ltb-false}
use native.Mathlib.Omega.{arith}
use Rattle.fields.specs.Number.{u32_at, Bytes}
use Rattle.fields.specs.Counting.{joined}
use Rattle.fields.specs.Rules.{Outcome, refused, done, Silent}
use Rattle.std.specs.Prelude.{Result, Ok, Err, IfOk}
use Rattle.fields.specs.Answer.{answer_of}
use Rattle.fields.specs.Refusal.{told_by}
use Rattle.fields.specs.declared.refusal.Refusal.{Refusal}
use Rattle.fields.specs.Options.{Options}
use Rattle.fields.specs.Program.{Source}
use Rattle.fields.proofs.NumberLaws.{u32_below}
use Rattle.fields.proofs.CountingLaws.{any_below_lem, joined_same}
use Rattle.fields.proofs.TestLaws.{neither_holds}
use Rattle.fields.proofs.RuleLaws.{silent_split, silent_at, done_silent}
use Rattle.coff.specs.declared.parts.Coff.{Coff}
use Rattle.coff.specs.File.{section_count, optional_size, entry_point, headers_end, section_of}
use Rattle.coff.specs.Kept.{keeps}
use Rattle.coff.specs.Marks.{is_marked, marks_below}
use Rattle.coff.specs.Refusals.{head_rules, kept_rules, rules_of, meets_earlier, overlap_rules, coff_rules}
use Rattle.coff.specs.Reading.{part_of, coff_source, read_coff}
use Rattle.coff.specs.Answer.{Headers, sections_of, headers_of, headers_in, headers_numbers, numbers_of_headers}
use Rattle.coff.specs.Handed.{source_in}
use Rattle.coff.specs.Parts.{part_at, parts_of, Whole, ReadOf, Accepted}
use Rattle.coff.proofs.SectionLaws.{rules_kept}
use Rattle.coff.proofs.KeptLaws.{kept_filled}
use Rattle.coff.proofs.ChoosingLaws.{kept_by_flags_lem, ranges_silent}
use Rattle.coff.proofs.MarkLaws.{noted}
use Rattle.coff.proofs.OverlapLaws.{meets_same}

whole_of : (o : Options) (f : List ℕ) (i : ℕ) → keeps o f i ≡ true → Silent (rules_of o f i) → Whole f (section_of f i)
whole_of o f i k h =
    let s = section_of f i in
    let r : Silent (kept_rules f s i) = rw (rules_kept (keeps o f) f i k) at (ranges_silent o f i h) in
    let a = neither_holds _ _ r.0 in
    record {
      filled = kept_filled s (kept_by_flags_lem o f i k);
      behind = ltb-false _ _ a.0;
      inside = ltb-false _ _ a.1;
      loads = ltb-false _ _ r.1.0;
      runs = ltb-false _ _ r.1.1.0;
    }

-- a file that is not refused
module _ (o : Options) (f : List ℕ) (source : Source) (e : read_coff o f ≡ done source) where
  abbrev rules : Type 0
  rules = Silent (coff_rules o f) × (coff_source o f ≡ source)

  all : rules
  unfolding read_coff
  all = done_silent (coff_rules o f) (coff_source o f) source e

  split : Silent (head_rules f) × Silent (joined (rules_of o f) (section_count f)) × Silent (joined (overlap_rules (keeps o f) f) (section_count f))
  unfolding coff_rules
  split =
      let head = silent_split (head_rules f) (joined (rules_of o f) (section_count f) ++ joined (overlap_rules (keeps o f) f) (section_count f)) all.0 in
      let tail = silent_split (joined (rules_of o f) (section_count f)) (joined (overlap_rules (keeps o f) f) (section_count f)) head.1 in
      (head.0, tail.0, tail.1)

  few : section_count f ≤ 256
  few = ltb-false _ _ split.0.1.1.1.1.1.1.0

  -- the marks tell what is kept
  told : (i : ℕ) → i < section_count f → is_marked (marks_below (keeps o f) (section_count f)) i ≡ keeps o f i
  told = (noted (keeps o f) (section_count f) few).tells

  read_of : ReadOf f (sections_of o f)
  unfolding sections_of headers_end meets_earlier
  read_of =
      record {
        laid =
            record {
              begins = refl;
              counted = refl;
              few = few;
              within = ltb-false _ _ split.0.1.1.1.1.1.1.1.0;
            };
        short = ltb-false _ _ split.0.0;
        whole = λ i l k. whole_of o f i (sym (told i l) ∙ k) (silent_at (rules_of o f) (section_count f) i l split.1);
        apart =
            λ i j l m.
            meets_same f _ (keeps o f) (section_count f) told i j (omega arith) m
            ∙ any_below_lem _ j i l (silent_at (overlap_rules (keeps o f) f) (section_count f) j m split.2).0;
      }

  parts_told : joined (part_of (keeps o f) f) (section_count f) ≡ parts_of f (sections_of o f)
  unfolding sections_of part_at part_of
  parts_told = joined_same _ _ (section_count f) (λ i l. rw (told i l))

  -- what is read is the entry point and the kept sections, in the order of their headers
  pub read_is : coff_source o f ≡ source
  read_is = all.1

  entry_is : entry_point f ≡ source.entry
  unfolding coff_source
  entry_is = ap (λ (s : Source). s.entry) read_is

  pub read_accepted : Accepted o f (sections_of o f) (entry_point f)
  unfolding coff_source
  read_accepted = record { read_of = read_of; reads = e ∙ rw (← all.1, parts_told) }

-- an entry point is a number that is given, or stands in a field
pub entry_small : (f : List ℕ) → Bytes f → entry_point f < 2 ^ 32
unfolding entry_point
entry_small f bytes = go (eqb (optional_size f) 0)
  where
    go : (t : Bool) → cond t 0 (u32_at f 38) < 2 ^ 32
    go true = omega arith
    go false = u32_below f 38 bytes

-- what an answer says of the file
pub accepted : (o : Options) (f : List ℕ) {h : Headers} → headers_of o f ≡ done h → Accepted o f h.sections h.entry
unfolding headers_of
accepted o f {h} k = go (read_coff o f) refl k
  where
    go : (out : Outcome Source) → read_coff o f ≡ out → ◌≡◌ {A = Outcome Headers} (elim out [ refused c i ↦ refused c i | done source ↦ done (record { sections = sections_of o f; entry = source.entry }) ]) (done h) → Accepted o f h.sections h.entry
    go (refused c i) e k = let z : ◌≡◌ {A = ℕ} 0 1 = cc in absurd (omega arith)
    go (done source) e k =
        let p : sections_of o f ≡ h.sections = cc in
        let q : source.entry ≡ h.entry = cc in
        rw (← p, ← q, ← (entry_is o f source e)) (read_accepted o f source e)

-- and what a refusal does
pub refused_file : (o : Options) (f : List ℕ) {code index : ℕ} → headers_of o f ≡ refused code index → read_coff o f ≡ refused code index
unfolding headers_of
refused_file o f {code} {index} h = go (read_coff o f) refl h
  where
    go : (out : Outcome Source) → read_coff o f ≡ out → ◌≡◌ {A = Outcome Headers} (elim out [ refused c i ↦ refused c i | done source ↦ done (record { sections = sections_of o f; entry = source.entry }) ]) (refused code index) → read_coff o f ≡ refused code index
    go (refused c i) e k = e ∙ cc
    go (done source) e k = let z : ◌≡◌ {A = ℕ} 0 1 = cc in absurd (omega arith)

-- what the reader answers is what the file means, by the parts that are handed on
module _ (o : Options) (f : List ℕ) where
  pub file_accepted : (file : Coff) → done (headers_in file) ≡ headers_of o f → Accepted o f file.sections file.entry
  file_accepted file h = accepted o f (sym h)

  pub file_reads : (file : Coff) → done (headers_in file) ≡ headers_of o f → file.bytes.now ≡ f → read_coff o f ≡ done (source_in file)
  file_reads file h e = rw e (file_accepted file h).reads

  pub read_tells : (r : Result Coff Refusal) → told_by headers_in r ≡ headers_of o f → IfOk r (λ (file : Coff). file.bytes.now ≡ f) → told_by source_in r ≡ read_coff o f
  read_tells (Ok file) h e = sym (file_reads file h e)
  read_tells (Err r) h e = sym (refused_file o f (sym h))

-- the numbers of an answer are those of what the file means
pub numbers_are : (o : Options) (f : List ℕ) {r : Outcome Headers} → r ≡ headers_of o f → numbers_of_headers r ≡ headers_numbers o f
unfolding headers_of numbers_of_headers sections_of coff_source answer_of
numbers_are o f e = rw e (go (read_coff o f) refl)
  where
    go : (out : Outcome Source) → read_coff o f ≡ out → numbers_of_headers (elim out [ refused c i ↦ refused c i | done source ↦ done (record { sections = sections_of o f; entry = source.entry }) ]) ≡ answer_of 2 (λ (s : Source). s.entry ∷ section_count f ∷ []) out
    go (refused code index) q = refl
    go (done source) q = rw (← (read_is o f source q))
