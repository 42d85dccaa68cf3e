-- What a reader hands on is bounded: a few parts, with small numbers, none longer than the file they come from.
use Prim.Native.Nat.{ℕ, zero, suc, ◌^◌, ◌<◌, ◌≤◌}
use mathlib.Core.Path.{◌≡◌, refl, sym, ◌∙◌}
use mathlib.Core.List.{List, [], ◌∷◌, ◌++◌}
use mathlib.Core.Logic.{⊎_elim}
use native.Mathlib.Omega.{arith}
use lib.ListN.{length, length-append}
use Rattle.fields.specs.Counting.{joined}
use Rattle.fields.specs.Rules.{Outcome, refused, done}
use Rattle.fields.specs.Options.{Options}
use Rattle.fields.specs.Program.{Numbered, Source}
use Rattle.coff.specs.declared.Sections.{Sections}
use Rattle.coff.specs.File.{entry_point}
use Rattle.coff.specs.Reading.{read_coff}
use Rattle.coff.specs.Answer.{sections_of}
use Rattle.coff.specs.Parts.{part_at, source_of, ReadOf}
use Rattle.coff.proofs.AcceptedLaws.{read_accepted}
use Rattle.coff.proofs.PartLaws.{part_cases, count_few}
use Rattle.coff.proofs.RefusalLaws.{refusal_small}
use Rattle.scanboot.proofs.SmallLaws.{Small}

-- a part's number fits where the index of a refusal stands
abbrev pub EachSmall : List Numbered → Type 0
EachSmall [] = Unit {0}
EachSmall (p ∷ ps) = ((p.number < 2 ^ 56) × (length p.block.bytes ≤ 16777216)) × EachSmall ps

pub record Bounded (most : ℕ) (s : Source) : Type 0 where
  pub few : length s.parts ≤ most
  pub each : EachSmall s.parts

each_append : (ps qs : List Numbered) → EachSmall ps → EachSmall qs → EachSmall (ps ++ qs)
each_append [] qs h k = k
each_append (p ∷ ps) qs h k = (h.0, each_append ps qs h.1 k)

-- A COFF file: at most one part for each of at most 256 sections.
module _ (f : List ℕ) (s : Sections) (ok : ReadOf f s) where
  part_small : (i : ℕ) → i < s.count → EachSmall (part_at f s i) × (length (part_at f s i) ≤ 1)
  part_small i h =
      ⊎_elim
      (λ left. rw left (tt, omega arith))
      (λ p. rw p.is (((omega (arith, count_few ok), omega (arith, p.long, p.short, ok.short)), tt), omega arith))
      (part_cases f s i ok h)

  parts_small : (n : ℕ) → n ≤ s.count → EachSmall (joined (part_at f s) n) × (length (joined (part_at f s) n) ≤ n)
  unfolding joined
  parts_small zero h = (tt, omega arith)
  parts_small (suc n) h =
      let p = parts_small n (omega arith) in
      let q = part_small n (omega arith) in
      (each_append (joined (part_at f s) n) (part_at f s n) p.0 q.0, rw length-append (omega (arith, p.1, q.1)))

pub coff_bounded : (o : Options) (f : List ℕ) → Small (Bounded 256) (read_coff o f)
coff_bounded o f = go (read_coff o f) refl
  where
    go : (out : Outcome Source) → read_coff o f ≡ out → Small (Bounded 256) out
    go (refused code index) e = omega (arith, refusal_small o f e)
    go (done source) e =
        let a = read_accepted o f source e in
        let s = sections_of o f in
        let is : source ≡ source_of f s (entry_point f) = let q = sym e ∙ a.reads in cc in
        let p = parts_small f s a.read_of s.count (omega arith) in
        rw is (record { few = omega (arith, p.1, count_few a.read_of); each = p.0 })

-- A bound may be taken wider.
pub bounded_wider : (s : Source) → Bounded 256 s → Bounded 4096 s
bounded_wider s b = record { few = omega arith; each = b.each }
