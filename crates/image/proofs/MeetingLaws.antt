-- Rule 27: the blocks of an image are a row of ranges, in whatever order its numbers stand. Two that do not meet lie apart.
use Prim.Native.Nat.{ℕ, zero, suc, ◌+◌, ◌<◌, ◌≤◌}
use mathlib.Core.Path.{◌≡◌, refl}
use mathlib.Core.Bool.{false}
use mathlib.Core.List.{List}
use mathlib.Core.Logic.{inl, inr, ⊎_elim}
use native.Mathlib.Numerals.{add-one}
use native.Mathlib.Omega.{arith}
use lib.ListN.{length}
use borrow.Author.Tests.{ltb-false}
use Rattle.fields.specs.Counting.{found_below}
use Rattle.fields.specs.Program.{Block, share, meet, meets_before}
use Rattle.fields.proofs.CountingLaws.{any_same, found_same}
use Rattle.fields.proofs.TestLaws.{one_fails}
use Rattle.ranges.specs.Row as row
use Rattle.ranges.specs.Search.{meets_earlier}
use Rattle.image.specs.Layout.{span_of, spans_of}
use Rattle.image.specs.Order.{number_in, undone}
use Rattle.image.specs.Reading.{blocks_in}
use Rattle.image.specs.Walking.{block_at, place_of, Framed, Tells, Apart}
use Rattle.ranges.specs.declared.row.Cursor.{Cursor}
use Rattle.image.specs.declared.walking.BlockHeader.{BlockHeader}
use Rattle.image.specs.Steps.{row_in}
use Rattle.image.proofs.OrderLaws.{length-undone}
use Rattle.image.proofs.SpelledNumbers.{row_number, row_room}
use Rattle.image.proofs.UndoneLaws.{tells_in}

pub share_apart : (b c : Block) → share b.load (length b.bytes) c.load (length c.bytes) ≡ false → Apart b c
unfolding share
share_apart b c e = ⊎_elim (λ l. inr (ltb-false _ _ l)) (λ l. inl (ltb-false _ _ l)) (one_fails _ _ e)

pub meet_apart : (b c : Block) → meet b c ≡ false → Apart b c
unfolding meet
meet_apart b c e = share_apart b c e

next_same : (order : ℕ) (s : List ℕ) (at : ℕ) → row.next_from (row_in order) s at ≡ at + span_of (number_in order s at)
unfolding row.next_from row.size_from
next_same order s at = rw (row_room, row_number)

-- what the image says at a cursor, as it stands there
abbrev header_here : ℕ → List ℕ → Cursor → BlockHeader
header_here order s c =
    record {
      part =
          record {
            size = number_in order s c.at;
            load = record { 0 = number_in order s (c.at + 4) };
            run = record { 0 = number_in order s (c.at + 8) };
            raw = record { 0 = c.at + 12 };
          };
      next = record { at = c.at + span_of (number_in order s c.at); number = c.number + 1 };
    }

module _ (order : ℕ) (s : List ℕ) (f : Framed (undone order s)) where
  -- the cursor of the block of number i
  abbrev at_block : ℕ → Cursor
  at_block i = record { at = place_of (undone order s) i; number = i }

  told : (i : ℕ) → i < length (blocks_in (undone order s)) → Tells (undone order s) (at_block i) (header_here order s (at_block i))
  told i l =
      (tells_in order s (at_block i) (record { framed = f; here = record { place = refl }; more = l }) (header_here order s (at_block i))
      (record { size = refl; load = refl; run = refl; raw = refl; next = refl; one_on = refl })).tells

  -- each range of the row begins where the block of its number does ..
  place_same : (i : ℕ) → i ≤ length (blocks_in (undone order s)) → row.place_of (row_in order) s 4 i ≡ place_of (undone order s) i
  unfolding row.place_of
  place_same zero l = unfold place_of in unfold spans_of in refl
  place_same (suc i) l =
      rw (place_same i (omega arith), next_same, ← (add-one i)) (told i (omega arith)).next.place

  module _ (i : ℕ) (l : i < length (blocks_in (undone order s))) where
    -- .. and has its load range
    load_same : row.load_of (row_in order) s 4 i ≡ (block_at (undone order s) i).load
    unfolding row.load_of row.load_from
    load_same = rw (place_same i (omega arith), row_number) (told i l).load

    size_same : row.size_of (row_in order) s 4 i ≡ length (block_at (undone order s) i).bytes
    unfolding row.size_of row.size_from
    size_same = rw (place_same i (omega arith), row_number) (told i l).size

    stands : row.Stands (row_in order) s (row.place_of (row_in order) s 4 i)
    unfolding row.load_from row.size_from
    stands =
        let t = told i l in
        rw (place_same i (omega arith)) (record { within = omega (arith, t.behind, t.within, length-undone order s); real = rw row_number t.real; loads = rw (row_number, row_number) t.loads })

  pub blocks_lined : (count : ℕ) → count ≡ length (blocks_in (undone order s)) → row.Lined (row_in order) s 4 count
  blocks_lined count e = record { short = rw (← (length-undone order s)) f.short; each = λ i l. stands i (omega arith) }

  pub first_block : (count : ℕ) → count ≡ length (blocks_in (undone order s)) → found_below (meets_earlier (row.load_of (row_in order) s 4) (row.size_of (row_in order) s 4)) count ≡ found_below (meets_before (blocks_in (undone order s))) count
  unfolding meets_earlier meets_before meet block_at
  first_block count e =
      found_same _ _ count
      (λ j l.
      any_same _ _ j
      (λ i m.
      rw (load_same i (omega arith), size_same i (omega arith), load_same j (omega arith), size_same j (omega arith))))
