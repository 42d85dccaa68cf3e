-- The reader at a cursor: the answer from the start is the answer from here, and here the first rule that holds decides.
use Prim.Native.Nat.{ℕ, suc, ◌+◌, ◌-◌, ◌^◌, ◌<◌, ◌≤◌}
use mathlib.Core.Path.{◌≡◌, refl, ap, sym, ◌∙◌}
use mathlib.Core.Bool.{true, false}
use mathlib.Core.List.{List, [], ◌∷◌, ◌++◌}
use native.Mathlib.Omega.{arith}
use lib.ListN.{length, drop, length-drop}
use lib.Seq.{drop-drop}
use borrow.Author.Tests.{lt-ltb, le-ltb, le-leb, lt-leb}
use Rattle.fields.specs.Rules.{refused, done, unless}
use Rattle.fields.specs.Program.{Block, numbered}
use Rattle.fields.proofs.RuleLaws.{silent_done, silent_front, refused_front}
use Rattle.image.specs.Layout.{span_of}
use Rattle.image.specs.Reading.{zeros, size_here, load_here, run_here, padding_here, after_block, block_rules, table_rules, table_blocks, entry_in, blocks_in, image_source, reading_of}
use Rattle.image.specs.Walking.{First}
use Rattle.image.specs.Steps.{Fields, table_reading}
use Rattle.ranges.specs.declared.row.Cursor.{Cursor}
use Rattle.image.specs.declared.walking.BlockHeader.{BlockHeader}
use Rattle.image.proofs.LayoutLaws.{span_is}
use Rattle.image.proofs.TableLaws.{Stands, stands_silent, rules_at_end, rules_at_block, end_silent, blocks_at_end, blocks_at_block}

-- One step. `rest` is what stands from a block, or from the end flag, on.
module _ {A : Type 0} (turns k : ℕ) (rest : List ℕ) (a : A) where
  step_cut : length rest < 4 → unless (table_rules (suc turns) k rest) a ≡ refused 21 k
  unfolding unless table_rules
  step_cut h = rw (lt-ltb _ _ h)

  step_trailing : size_here rest ≡ 0 → 4 < length rest → unless (table_rules (suc turns) k rest) a ≡ refused 26 k
  unfolding unless
  step_trailing e h = rw (rules_at_end turns k rest e, le-ltb (length rest) 4 (omega arith), lt-ltb _ _ h)

  step_end : size_here rest ≡ 0 → length rest ≡ 4 → unless (table_rules (suc turns) k rest) a ≡ done a
  step_end e n = silent_done (table_rules (suc turns) k rest) a (end_silent turns k rest e n)

  step_block : 0 < size_here rest → 4 ≤ length rest → unless (table_rules (suc turns) k rest) a ≡ unless (block_rules k rest ++ table_rules turns (k + 1) (after_block rest)) a
  unfolding unless
  step_block r h = rw (rules_at_block turns k rest r, le-ltb (length rest) 4 h)

  step_refused : 0 < size_here rest → 4 ≤ length rest → {code index : ℕ} → unless (block_rules k rest) a ≡ refused code index → unless (table_rules (suc turns) k rest) a ≡ refused code index
  step_refused r h e = step_block r h ∙ refused_front (block_rules k rest) (table_rules turns (k + 1) (after_block rest)) a a e

  step_on : 0 < size_here rest → Stands k rest → unless (table_rules (suc turns) k rest) a ≡ unless (table_rules turns (k + 1) (after_block rest)) a
  step_on r st =
      let h : 4 ≤ length rest = omega (arith, span_is (size_here rest)) in
      step_block r h ∙ silent_front (block_rules k rest) (table_rules turns (k + 1) (after_block rest)) a (stands_silent k rest st)

-- The answer from the start is the answer from here.
pub record Going (s : List ℕ) (c : Cursor) : Type 0 where
  pub within : c.at ≤ length s
  pub few : c.number ≤ 4096
  pub same : unless (table_rules 4097 0 (drop 4 s)) (image_source s) ≡ unless (table_rules (suc (4096 - c.number)) c.number (drop c.at s)) (image_source s)
  pub count : length (blocks_in s) ≡ c.number + length (table_blocks (suc (4096 - c.number)) (drop c.at s))

pub going_first : (s : List ℕ) (c : Cursor) → 4 ≤ length s → First c → Going s c
unfolding blocks_in
going_first s c h f =
    record {
      within = omega arith;
      few = omega arith;
      same = rw (f.place, f.number);
      count = rw (f.place, f.number) (omega arith);
    }

-- what stands from a cursor on, and how many turns are left there
abbrev pub rest : List ℕ → Cursor → List ℕ
rest s c = drop c.at s

abbrev left : Cursor → ℕ
left c = 4096 - c.number

pub length-numbered : (k : ℕ) (bs : List Block) → length (numbered k bs) ≡ length bs
unfolding numbered
length-numbered k [] = refl
length-numbered k (b ∷ bs) = ap suc (length-numbered (k + 1) bs)

-- One law for each answer. The tests are as the code has them.
module _ (s : List ℕ) (c : Cursor) (g : Going s c) where
  refuses : {code index : ℕ} → unless (table_rules (suc (left c)) c.number (rest s c)) (image_source s) ≡ refused code index → refused code index ≡ table_reading s
  unfolding table_reading reading_of
  refuses e = sym (ap reading_of (g.same ∙ e))

  block_refuses : {code index : ℕ} → (4 ≤ length s - c.at) × (0 < size_here (rest s c)) → unless (block_rules c.number (rest s c)) (image_source s) ≡ refused code index → refused code index ≡ table_reading s
  block_refuses h e = refuses (step_refused (left c) c.number (rest s c) (image_source s) h.1 (rw length-drop h.0) e)

  pub cut_field : length s - c.at < 4 → refused 21 c.number ≡ table_reading s
  cut_field h = refuses (step_cut (left c) c.number (rest s c) (image_source s) (rw length-drop h))

  pub trailing : (size_here (rest s c) ≡ 0) × (4 < length s - c.at) → refused 26 c.number ≡ table_reading s
  trailing h = refuses (step_trailing (left c) c.number (rest s c) (image_source s) h.0 (rw length-drop h.1))

  pub ends : (size_here (rest s c) ≡ 0) × (length s - c.at ≡ 4) → done (record { entry = entry_in s; blocks = c.number }) ≡ table_reading s
  unfolding table_reading reading_of image_source
  ends h =
      let e = step_end (left c) c.number (rest s c) (image_source s) h.0 (rw length-drop h.1) in
      let n : c.number ≡ length (numbered 0 (blocks_in s)) = omega (arith, g.count, ap length (blocks_at_end (left c) (rest s c) h.0), length-numbered 0 (blocks_in s)) in
      rw n (sym (ap reading_of (g.same ∙ e)))

  pub too_many : (4 ≤ length s - c.at) × (0 < size_here (rest s c)) → 4096 ≤ c.number → refused 22 c.number ≡ table_reading s
  unfolding unless
  too_many h k =
      let e : c.number ≡ 4096 = omega arith in
      ap (λ (i : ℕ). refused 22 i) e ∙ block_refuses h (rw (le-leb _ _ k))

  pub cut_block : (4 ≤ length s - c.at) × (0 < size_here (rest s c)) → (c.number < 4096) × (length s - c.at < span_of (size_here (rest s c))) → refused 21 c.number ≡ table_reading s
  unfolding unless
  cut_block h k = block_refuses h (rw (length-drop, lt-leb 4096 _ k.0, lt-ltb _ _ k.1))

-- of a block that is wholly there
pub record Whole (s : List ℕ) (c : Cursor) : Type 0 where
  pub real : 0 < size_here (rest s c)
  pub few : c.number < 4096
  pub whole : span_of (size_here (rest s c)) ≤ length s - c.at

module _ (s : List ℕ) (c : Cursor) (g : Going s c) (w : Whole s c) where
  begins : (4 ≤ length s - c.at) × (0 < size_here (rest s c))
  begins = omega (arith, span_is (size_here (rest s c)))

  pub loads_over : 2 ^ 32 < load_here (rest s c) + size_here (rest s c) → refused 23 c.number ≡ table_reading s
  unfolding unless
  loads_over h =
      block_refuses s c g begins
      (rw (length-drop, lt-leb 4096 _ w.few, le-ltb _ _ w.whole, lt-ltb _ _ h))

  module _ (l : load_here (rest s c) + size_here (rest s c) ≤ 2 ^ 32) where
    pub runs_over : 2 ^ 32 < run_here (rest s c) + size_here (rest s c) → refused 24 c.number ≡ table_reading s
    unfolding unless
    runs_over h =
        block_refuses s c g begins
        (rw (length-drop, lt-leb 4096 _ w.few, le-ltb _ _ w.whole, le-ltb _ _ l, lt-ltb _ _ h))

    module _ (r : run_here (rest s c) + size_here (rest s c) ≤ 2 ^ 32) where
      pub not_padded : zeros (padding_here (rest s c)) ≡ false → refused 25 c.number ≡ table_reading s
      unfolding unless
      not_padded h =
          block_refuses s c g begins
          (rw (length-drop, lt-leb 4096 _ w.few, le-ltb _ _ w.whole, le-ltb _ _ l, le-ltb _ _ r, h))

      pub going_on : zeros (padding_here (rest s c)) ≡ true → (b : BlockHeader) → Fields s c b → Going s b.next
      unfolding after_block
      going_on h b f =
          let v : span_of (size_here (rest s c)) ≤ length (rest s c) = rw length-drop w.whole in
          let st : Stands c.number (rest s c) = record { few = w.few; whole = v; loads = l; runs = r; padded = h } in
          let t : left c ≡ suc (left b.next) = omega (arith, f.one_on) in
          let n : drop (span_of (size_here (rest s c))) (rest s c) ≡ rest s b.next = rw (drop-drop, f.next, f.size) in
          record {
            within = rw (f.next, f.size) (omega arith);
            few = omega (arith, f.one_on);
            same = g.same ∙ step_on (left c) c.number (rest s c) (image_source s) w.real st ∙ rw (t, n, f.one_on);
            count = g.count ∙ rw (blocks_at_block (left c) (rest s c) w.real, t, n, f.one_on) (omega arith);
          }
