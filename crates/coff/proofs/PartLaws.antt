-- The parts of an accepted file: each is one block that is not empty and ends in time, or none, and no two meet. Crates above know the sections by these laws.
use Prim.Native.Nat.{ℕ, ◌+◌, ◌^◌, ◌<◌, ◌≤◌}
use mathlib.Core.Path.{◌≡◌, refl, ap, sym, ◌∙◌}
use mathlib.Core.Bool.{Bool, true, false}
use mathlib.Core.List.{List, [], ◌∷◌}
use mathlib.Core.Logic.{◌⊎◌, inl, inr}
use lib.ListN.{length, take, drop, length-take, length-drop}
use native.Mathlib.Omega.{arith}
use Rattle.fields.specs.Program.{Block, Numbered, share}
use Rattle.coff.specs.declared.Sections.{Sections}
use Rattle.coff.specs.File.{section_count, section_of}
use Rattle.coff.specs.Marks.{is_marked}
use Rattle.coff.specs.Refusals.{share_load, do_meet}
use Rattle.coff.specs.Reading.{block_of, part_of}
use Rattle.coff.specs.Parts.{part_at, ReadOf, TellsKept}

-- a piece of the file is as long as is asked for, where the file is long enough
pub length_piece : (f : List ℕ) (raw size : ℕ) → raw + size ≤ length f → length (take size (drop raw f)) ≡ size
length_piece f raw size h = simp (length-take, length-drop) (omega arith)

-- how many sections there are
pub count_is : {f : List ℕ} {s : Sections} → ReadOf f s → s.count ≡ section_count f
count_is ok = ok.laid.counted

pub count_few : {f : List ℕ} {s : Sections} → ReadOf f s → s.count ≤ 256
count_few ok = ok.laid.few

module _ (f : List ℕ) (s : Sections) (i : ℕ) where
  pub part_left : is_marked s.kept i ≡ false → part_at f s i ≡ []
  unfolding part_at part_of
  part_left k = rw k

  part_is : is_marked s.kept i ≡ true → part_at f s i ≡ record { number = i; block = block_of f (section_of f i) } ∷ []
  unfolding part_at part_of
  part_is k = rw k

  module _ (ok : ReadOf f s) (h : i < s.count) (k : is_marked s.kept i ≡ true) where
    -- what its header says of a kept section
    pub part_kept : TellsKept f s i (section_of f i).size (section_of f i).load (section_of f i).run (section_of f i).raw
    part_kept =
        let w = ok.whole i h k in
        record {
          part = part_is k ∙ unfold block_of in refl;
          place = refl;
          within = w.inside;
          real = w.filled;
          loads = w.loads;
          runs = w.runs;
        }

-- A part that is one block.
pub record SoundPart (f : List ℕ) (s : Sections) (i : ℕ) : Type 0 where
  pub block : Block
  pub is : part_at f s i ≡ record { number = i; block = block } ∷ []
  -- its bytes are some of the file's
  pub from : ℕ
  pub size : ℕ
  pub bytes : block.bytes ≡ take size (drop from f)
  pub long : length block.bytes ≡ size
  pub short : size ≤ length f
  pub real : 0 < size
  pub loads : block.load + size ≤ 2 ^ 32
  pub runs : block.run + size ≤ 2 ^ 32

pub part_cases : (f : List ℕ) (s : Sections) (i : ℕ) → ReadOf f s → i < s.count → (part_at f s i ≡ []) ⊎ SoundPart f s i
part_cases f s i ok h = go (is_marked s.kept i) refl
  where
    go : (t : Bool) → is_marked s.kept i ≡ t → (part_at f s i ≡ []) ⊎ SoundPart f s i
    go false k = inl (part_left f s i k)
    go true k =
        let t = section_of f i in
        let told = part_kept f s i ok h k in
        inr
        record {
          block = record { load = t.load; run = t.run; bytes = take t.size (drop t.raw f) };
          is = told.part;
          from = t.raw;
          size = t.size;
          bytes = refl;
          long = length_piece f t.raw t.size told.within;
          short = omega (arith, told.within);
          real = told.real;
          loads = told.loads;
          runs = told.runs;
        }

-- no two blocks of two parts share a load address
module _ (f : List ℕ) (s : Sections) (ok : ReadOf f s) where
  one_block : (i : ℕ) → i < s.count → (b : Block) → part_at f s i ≡ record { number = i; block = b } ∷ [] → (is_marked s.kept i ≡ true) × (b ≡ block_of f (section_of f i)) × (length b.bytes ≡ (section_of f i).size)
  one_block i h b e = go (is_marked s.kept i) refl
    where
      go : (t : Bool) → is_marked s.kept i ≡ t → (is_marked s.kept i ≡ true) × (b ≡ block_of f (section_of f i)) × (length b.bytes ≡ (section_of f i).size)
      go false k = let q = sym (part_left f s i k) ∙ e in let z : ◌≡◌ {A = ℕ} 0 1 = ap length q in absurd (omega arith)
      go true k =
          let q : ◌≡◌ {A = List Numbered} (record { number = i; block = block_of f (section_of f i) } ∷ []) (record { number = i; block = b } ∷ []) = sym (part_is f s i k) ∙ e in
          let n : ◌≡◌ {A = Numbered} (record { number = i; block = block_of f (section_of f i) }) (record { number = i; block = b }) = cc in
          let p : block_of f (section_of f i) ≡ b = ap (λ (x : Numbered). x.block) n in
          (k, sym p, rw (← p) (unfold block_of in length_piece f (section_of f i).raw (section_of f i).size (ok.whole i h k).inside))

  loads_apart : (i j : ℕ) → i < j → j < s.count → is_marked s.kept i ≡ true → is_marked s.kept j ≡ true → share (block_of f (section_of f i)).load (section_of f i).size (block_of f (section_of f j)).load (section_of f j).size ≡ false
  unfolding do_meet share_load block_of
  loads_apart i j h l k m = rw (k, m) at (ok.apart i j h l)

  pub parts_apart : (i j : ℕ) → i < j → j < s.count → (b c : Block) → part_at f s i ≡ record { number = i; block = b } ∷ [] → part_at f s j ≡ record { number = j; block = c } ∷ [] → share b.load (length b.bytes) c.load (length c.bytes) ≡ false
  parts_apart i j h l b c e d =
      let x = one_block i (omega arith) b e in
      let y = one_block j l c d in
      rw (x.2, y.2, x.1, y.1) (loads_apart i j h l x.0 y.0)
