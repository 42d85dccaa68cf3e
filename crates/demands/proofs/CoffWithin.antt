-- What a COFF file gives is within the rules: each kept section is a sound block, and no two meet, by what its reader states.
use Prim.Native.Nat.{ℕ, zero, suc, ◌+◌, ◌<◌, ◌≤◌}
use mathlib.Core.Path.{◌≡◌, sym, ◌∙◌}
use mathlib.Core.Bool.{false}
use mathlib.Core.List.{List, [], ◌∷◌, ◌++◌, append-nil}
use mathlib.Core.Logic.{⊎_elim}
use native.Mathlib.Nat.{eq-or-lt_of_le, le_of_suc-le-suc}
use native.Mathlib.Numerals.{add-one}
use native.Mathlib.Omega.{arith}
use lib.ListN.{length, drop, get_or, length-append, get_or-append}
use lib.Seq.{get_or-append_seam}
use Rattle.fields.specs.Number.{Bytes}
use Rattle.fields.specs.Counting.{joined}
use Rattle.fields.specs.Rules.{done}
use Rattle.fields.specs.Options.{Options}
use Rattle.fields.specs.Program.{Block, Source, blocks_of_parts, blocks_of, program_of, meet, no_block}
use Rattle.fields.proofs.NumberLaws.{bytes_take, bytes_drop}
use Rattle.fields.proofs.CountingLaws.{joined_none, blocks_joined}
use Rattle.coff.specs.declared.Sections.{Sections}
use Rattle.coff.specs.File.{entry_point}
use Rattle.coff.specs.Reading.{coff_source, read_coff}
use Rattle.coff.specs.Answer.{sections_of}
use Rattle.coff.specs.Parts.{part_at, source_of, ReadOf}
use Rattle.coff.proofs.AcceptedLaws.{read_is, read_accepted, entry_small}
use Rattle.coff.proofs.PartLaws.{SoundPart, part_cases, parts_apart, count_few}
use Rattle.image.specs.Layout.{image_of, image_length}
use Rattle.image.specs.Reading.{read_image}
use Rattle.demands.specs.Valid.{Sound, EachSound, Apart, Valid, counted}
use Rattle.demands.proofs.RoundTrip.{written_reads_back}

-- Blocks with one more behind them.
each_snoc : (bs : List Block) (b : Block) → EachSound bs → Sound b → EachSound (bs ++ (b ∷ []))
each_snoc [] b h s = (s, tt)
each_snoc (c ∷ bs) b h s = (h.0, each_snoc bs b h.1 s)

module _ (bs : List Block) (b : Block) where
  snoc_front : (i : ℕ) → i < length bs → get_or (bs ++ (b ∷ [])) i no_block ≡ get_or bs i no_block
  snoc_front i h = get_or-append bs (b ∷ []) no_block i h

  snoc_last : (i : ℕ) → i ≡ length bs → get_or (bs ++ (b ∷ [])) i no_block ≡ b
  snoc_last i e = rw e (get_or-append_seam bs b [] no_block)

  snoc_length : length (bs ++ (b ∷ [])) ≡ suc (length bs)
  snoc_length = rw length-append (omega arith)

  apart_snoc : Apart bs → ((i : ℕ) → i < length bs → meet (get_or bs i no_block) b ≡ false) → Apart (bs ++ (b ∷ []))
  apart_snoc apart new i j h l =
      ⊎_elim
      (λ e. rw (snoc_last j e, snoc_front i (omega arith)) (new i (omega arith)))
      (λ k. rw (snoc_front i (omega arith), snoc_front j k) (apart i j h k))
      (eq-or-lt_of_le (le_of_suc-le-suc (rw snoc_length at l)))

-- a block is that of some section before a number
record Is (f : List ℕ) (s : Sections) (n : ℕ) (b : Block) : Type 0 where
  section : ℕ
  before : section < n
  part : part_at f s section ≡ record { number = section; block = b } ∷ []

-- what holds of the blocks of the sections before a number
record Within (f : List ℕ) (s : Sections) (n : ℕ) (bs : List Block) : Type 0 where
  few : length bs ≤ n
  each : EachSound bs
  apart : Apart bs
  from : (i : ℕ) → i < length bs → Is f s n (get_or bs i no_block)

module _ (f : List ℕ) (bytes : Bytes f) (s : Sections) (ok : ReadOf f s) where
  abbrev below : ℕ → List Block
  below n = blocks_of_parts (joined (part_at f s) n)

  sound_part : (i : ℕ) (p : SoundPart f s i) → Sound p.block
  sound_part i p =
      record {
        real = rw p.long p.real;
        raw = rw p.bytes (bytes_take p.size (drop p.from f) (bytes_drop p.from f bytes));
        loads = rw p.long p.loads;
        runs = rw p.long p.runs;
      }

  none_meets : (i j : ℕ) → i < j → j < s.count → (b c : Block) → part_at f s i ≡ record { number = i; block = b } ∷ [] → part_at f s j ≡ record { number = j; block = c } ∷ [] → meet b c ≡ false
  unfolding meet
  none_meets i j h l b c e d = parts_apart f s ok i j h l b c e d

  within_more : (n : ℕ) → n < s.count → Within f s n (below n) → Within f s (n + 1) (below (n + 1))
  within_more n h w = rw (blocks_joined (part_at f s) n) (⊎_elim none one (part_cases f s n ok h))
    where
      later : (b : Block) → Is f s n b → Is f s (n + 1) b
      later b is = record { section = is.section; before = omega (arith, is.before); part = is.part }

      none : part_at f s n ≡ [] → Within f s (n + 1) (below n ++ blocks_of_parts (part_at f s n))
      none left =
          rw (left, append-nil (below n))
          record { few = omega (arith, w.few); each = w.each; apart = w.apart; from = λ i l. later (get_or (below n) i no_block) (w.from i l) }

      one : SoundPart f s n → Within f s (n + 1) (below n ++ blocks_of_parts (part_at f s n))
      one p =
          let bs = below n in
          let b = p.block in
          rw p.is
          record {
            few = rw (snoc_length bs b) (omega (arith, w.few));
            each = each_snoc bs b w.each (sound_part n p);
            apart = apart_snoc bs b w.apart (λ i l. none_meets (w.from i l).section n (w.from i l).before h (get_or bs i no_block) b (w.from i l).part p.is);
            from = λ i l. ⊎_elim
                (λ e. rw (snoc_last bs b i e) (record { section = n; before = omega arith; part = p.is }))
                (λ k. rw (snoc_front bs b i k) (later (get_or bs i no_block) (w.from i k)))
                (eq-or-lt_of_le (le_of_suc-le-suc (rw (snoc_length bs b) at l)));
          }

  within : (n : ℕ) → n ≤ s.count → Within f s n (below n)
  within zero h =
      rw (joined_none (part_at f s)) (record { few = omega arith; each = tt; apart = λ i j h l. absurd (omega arith); from = λ i h. absurd (omega arith) })
  within (suc n) h = rw add-one at (within_more n h (within n (omega arith)))

-- What rules 1 to 13 and 16 accept is the entry point and the kept sections, in the order of their headers ..
pub coff_is_kept : (o : Options) (f : List ℕ) (src : Source) → read_coff o f ≡ done src → coff_source o f ≡ src
coff_is_kept o f src accepted = read_is o f src accepted

-- as the reader hands it on
handed_on : (o : Options) (f : List ℕ) (src : Source) → read_coff o f ≡ done src → source_of f (sections_of o f) (entry_point f) ≡ src
handed_on o f src accepted = let q = sym (read_accepted o f src accepted).reads ∙ accepted in cc

-- .. each of them is sound, and no two meet, whatever the length of the image ..
coff_is_within : (o : Options) (f : List ℕ) (src : Source) → Bytes f → read_coff o f ≡ done src → Within f (sections_of o f) (sections_of o f).count (blocks_of src)
unfolding blocks_of
coff_is_within o f src bytes accepted =
    rw (← (handed_on o f src accepted)) (within f bytes (sections_of o f) (read_accepted o f src accepted).read_of (sections_of o f).count (omega arith))

pub coff_is_sound : (o : Options) (f : List ℕ) (src : Source) → Bytes f → read_coff o f ≡ done src → EachSound (blocks_of src)
coff_is_sound o f src bytes accepted = (coff_is_within o f src bytes accepted).each

pub coff_is_apart : (o : Options) (f : List ℕ) (src : Source) → Bytes f → read_coff o f ≡ done src → Apart (blocks_of src)
coff_is_apart o f src bytes accepted = (coff_is_within o f src bytes accepted).apart

-- .. it is within the rules, as far as its image is not too long ..
pub coff_is_valid : (o : Options) (f : List ℕ) (src : Source) → Bytes f → read_coff o f ≡ done src → image_length (program_of src) ≤ 16777216 → Valid (program_of src)
unfolding program_of
coff_is_valid o f src bytes accepted short =
    let w = coff_is_within o f src bytes accepted in
    record {
      enters = rw (← (handed_on o f src accepted)) (entry_small f bytes);
      few = omega (arith, w.few, count_few (read_accepted o f src accepted).read_of);
      each = w.each;
      apart = w.apart;
      short = short;
    }

-- .. and its image reads back as just that.
pub coff_reads_back : (o : Options) (f : List ℕ) (src : Source) → Bytes f → read_coff o f ≡ done src → image_length (program_of src) ≤ 16777216 → read_image (image_of (program_of src)) ≡ done (counted (program_of src))
coff_reads_back o f src bytes accepted short = written_reads_back (program_of src) (coff_is_valid o f src bytes accepted short)
