-- The parts of a file that is read: no two share an address, and none ends past 2 ^ 32, by what its reader states.
use Prim.Native.Nat.{ℕ, zero, suc, ◌^◌, ◌<◌, ◌≤◌}
use mathlib.Core.Path.{◌≡◌}
use mathlib.Core.Bool.{false}
use mathlib.Core.List.{List, [], ◌∷◌, ◌++◌, append-nil}
use mathlib.Core.Logic.{⊎_elim}
use native.Mathlib.Numerals.{add-one}
use native.Mathlib.Omega.{arith}
use Rattle.fields.specs.Counting.{joined}
use Rattle.fields.specs.Program.{Block, blocks_of_parts}
use Rattle.fields.proofs.CountingLaws.{joined_none, blocks_joined}
use Rattle.coff.specs.declared.parts.Coff.{Coff}
use Rattle.coff.specs.Handed.{part_in, parts_in}
use Rattle.coff.proofs.PartLaws.{SoundPart, part_cases, parts_apart}
use Rattle.image.proofs.MeetingLaws.{share_apart}
use Rattle.loader.specs.Placing.{is_outside}
use Rattle.loader.specs.Addresses.{Each, Misses, Disjoint}
use Rattle.loader.proofs.AddressLaws.{range_inside}
use Rattle.compare.proofs.MatchLaws.{Spread}
use Rattle.compare.proofs.SpreadLaws.{apart_misses}

-- Blocks with one more behind them.
each_snoc : (P : Block → Type 0) (bs : List Block) (b : Block) → Each P bs → P b → Each P (bs ++ (b ∷ []))
each_snoc P [] b e h = (h, tt)
each_snoc P (c ∷ bs) b e h = (e.0, each_snoc P bs b e.1 h)

disjoint_snoc : (bs : List Block) (b : Block) → Disjoint bs → Each (λ c. Misses c b) bs → Disjoint (bs ++ (b ∷ []))
disjoint_snoc [] b d e = (tt, tt)
disjoint_snoc (c ∷ bs) b d e = (each_snoc (Misses c) bs b d.0 e.0, disjoint_snoc bs b d.1 e.1)

module _ (file : Coff) where
  abbrev below : ℕ → List Block
  below n = blocks_of_parts (joined (part_in file) n)

  -- one more section, which is left or is one block
  section_more : (Q : List Block → Type 0) (n : ℕ) → n < file.sections.count → Q (below n) → ((p : SoundPart file.bytes.now file.sections n) → Q (below n ++ (p.block ∷ []))) → Q (below (suc n))
  section_more Q n h had more =
      rw (← (add-one n), blocks_joined (part_in file) n)
      (⊎_elim (λ left. rw left (rw (append-nil (below n)) had)) (λ p. rw p.is (more p)) (part_cases file.bytes.now file.sections n file.read h))

  each_below : (P : Block → Type 0) (n : ℕ) → n ≤ file.sections.count → ((i : ℕ) → i < n → (p : SoundPart file.bytes.now file.sections i) → P p.block) → Each P (below n)
  each_below P zero l h = rw (joined_none (part_in file)) tt
  each_below P (suc n) l h =
      let before = each_below P n (omega arith) (λ i k. h i (omega arith)) in
      section_more (Each P) n (omega arith) before (λ p. each_snoc P (below n) p.block before (h n (omega arith) p))

  parts_miss : (i j : ℕ) → i < j → j < file.sections.count → (p : SoundPart file.bytes.now file.sections i) (q : SoundPart file.bytes.now file.sections j) → Misses p.block q.block
  parts_miss i j h l p q =
      let clear = parts_apart file.bytes.now file.sections file.read i j h l p.block q.block p.is q.is in
      apart_misses p.block q.block (share_apart p.block q.block clear)

  disjoint_below : (n : ℕ) → n ≤ file.sections.count → Disjoint (below n)
  disjoint_below zero h = rw (joined_none (part_in file)) tt
  disjoint_below (suc n) h =
      let before = disjoint_below n (omega arith) in
      section_more Disjoint n (omega arith) before
      (λ q. disjoint_snoc (below n) q.block before (each_below (λ c. Misses c q.block) n (omega arith) (λ i l p. parts_miss i n l (omega arith) p q)))

  pub file_spread : Spread (2 ^ 32) (blocks_of_parts (parts_in file))
  file_spread =
      record {
        apart = disjoint_below file.sections.count (omega arith);
        ended = each_below (λ b. is_outside 0 (2 ^ 32) b ≡ false) file.sections.count (omega arith) (λ i l p. range_inside 0 (2 ^ 32) p.block (omega arith) (omega (arith, p.long, p.loads)));
      }
