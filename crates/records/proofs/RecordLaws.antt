-- Records by their number: where each begins, what it has, and what is read of it at a cursor.
use Prim.Native.Nat.{ℕ, zero, suc, ◌+◌, ◌*◌, ◌/◌, ◌^◌, ◌<◌, ◌≤◌}
use mathlib.Core.Path.{◌≡◌, refl, ap, sym, ◌∙◌}
use mathlib.Core.Bool.{Bool}
use mathlib.Core.List.{List, [], ◌∷◌, ◌++◌}
use native.Mathlib.Numerals.{add-one}
use native.Mathlib.Omega.{arith}
use lib.ListN.{length, take, drop, get_or, length-drop}
use lib.Seq.{take-take, length-take-le}
use Rattle.fields.specs.Counting.{joined}
use Rattle.fields.specs.Program.{no_block, numbered}
use Rattle.fields.specs.Turning.{turned_if}
use Rattle.fields.proofs.BlockLaws.{numbered-append, numbered_none, numbered_one}
use Rattle.fields.proofs.CountingLaws.{joined_none, joined_more, length_each, get_or_each}
use Rattle.fields.proofs.TurningLaws.{length-turned_if, take-turned_if, drop-turned_if}
use Rattle.ranges.specs.Row.{next_from, place_of, load_of, size_of}
use Rattle.ranges.specs.Row as row
use Rattle.ranges.specs.Steps.{First, AtRange, RangeAt}
use Rattle.ranges.specs.declared.row.Cursor.{Cursor}
use Rattle.ranges.specs.declared.row.Range.{Range}
use Rattle.ranges.proofs.RowLaws.{place_none, place_more, first_place_lem, at_range}
use Rattle.records.specs.Walking.{row_of, record_at, records_at, Recorded}

-- None, one more, how many they are, and each.
module _ (turned : Bool) (t : List ℕ) where
  pub records_none : records_at turned t 0 ≡ []
  unfolding records_at
  records_none = joined_none _

  pub records_more : (n : ℕ) → records_at turned t (n + 1) ≡ records_at turned t n ++ (record_at turned t n ∷ [])
  unfolding records_at
  records_more n = joined_more _ n

  pub length_records : (n : ℕ) → length (records_at turned t n) ≡ n
  unfolding records_at
  length_records n = length_each _ n

  pub record_of : (n i : ℕ) → i < n → get_or (records_at turned t n) i no_block ≡ record_at turned t i
  unfolding records_at
  record_of n i h = get_or_each _ n i no_block h

  -- counted on from a number
  pub numbered_more : (next n : ℕ) → numbered next (records_at turned t (n + 1)) ≡ numbered next (records_at turned t n) ++ (record { number = next + n; block = record_at turned t n } ∷ [])
  numbered_more next n =
      rw (records_more n, numbered-append next (records_at turned t n) (record_at turned t n ∷ []), length_records n, numbered_one)

  pub numbered_records : (next n : ℕ) → numbered next (records_at turned t n) ≡ joined (λ i. record { number = next + i; block = record_at turned t i } ∷ []) n
  numbered_records next zero = rw (records_none, joined_none) (numbered_none next)
  numbered_records next (suc n) =
      rw (← (add-one n)) (numbered_more next n ∙ rw (joined_more, numbered_records next n))

  -- where a record begins, and where the next one does
  pub place_first : place_of (row_of turned) t 0 0 ≡ 0
  place_first = place_none (row_of turned) t 0

  pub place_next : (i : ℕ) → place_of (row_of turned) t 0 (i + 1) ≡ place_of (row_of turned) t 0 i + (8 + (size_of (row_of turned) t 0 i + 7) / 8 * 8)
  unfolding next_from size_of row.room_of
  place_next i = place_more (row_of turned) t 0 i

  pub place_whole : (i : ℕ) → place_of (row_of turned) t 0 i ≡ 8 * (place_of (row_of turned) t 0 i / 8)
  place_whole zero = omega (arith, place_first)
  place_whole (suc i) =
      let e : place_of (row_of turned) t 0 (suc i) ≡ place_of (row_of turned) t 0 i + (8 + (size_of (row_of turned) t 0 i + 7) / 8 * 8) = rw (← (add-one i)) (place_next i) in
      omega (arith, e, place_whole i)

  pub place_low : (i : ℕ) → 8 * i ≤ place_of (row_of turned) t 0 i
  place_low zero = omega arith
  place_low (suc i) =
      let e : place_of (row_of turned) t 0 (suc i) ≡ place_of (row_of turned) t 0 i + (8 + (size_of (row_of turned) t 0 i + 7) / 8 * 8) = rw (← (add-one i)) (place_next i) in
      omega (arith, e, place_low i)

-- A record among so many: it is not empty, ends at 2 ^ 32 or below, and has as many bytes as its size says.
module _ (turned : Bool) (t : List ℕ) (n : ℕ) (h : Recorded turned t n) (i : ℕ) (l : i < n) where
  pub record_real : 0 < size_of (row_of turned) t 0 i
  unfolding size_of
  record_real = (h.lined.each i l).real

  pub record_loads : load_of (row_of turned) t 0 i + size_of (row_of turned) t 0 i ≤ 2 ^ 32
  unfolding size_of load_of
  record_loads = (h.lined.each i l).loads

  pub length_record : length (record_at turned t i).bytes ≡ size_of (row_of turned) t 0 i
  unfolding record_at
  length_record =
      length-take-le (size_of (row_of turned) t 0 i) (drop (place_of (row_of turned) t 0 i + 8) (turned_if turned t))
      (rw (length-drop (place_of (row_of turned) t 0 i + 8) (turned_if turned t), length-turned_if t turned) (omega (arith, h.inside i l)))

-- its bytes are the first of its data area, undone by itself
pub record_area : (turned : Bool) (t : List ℕ) (i : ℕ) → (record_at turned t i).bytes ≡ take (size_of (row_of turned) t 0 i) (turned_if turned (take ((size_of (row_of turned) t 0 i + 3) / 4 * 4) (drop (place_of (row_of turned) t 0 i + 8) t)))
unfolding record_at
record_area turned t i =
    let n = size_of (row_of turned) t 0 i in
    let at = place_of (row_of turned) t 0 i + 8 in
    let fours : at ≡ 4 * (at / 4) = omega (arith, place_whole turned t i) in
    let m : (n + 3) / 4 * 4 ≡ 4 * ((n + 3) / 4) = omega arith in
    let behind : drop at (turned_if turned t) ≡ turned_if turned (drop at t) = rw fours (drop-turned_if (at / 4) t turned) in
    rw (behind, m)
    (sym (take-take n (4 * ((n + 3) / 4)) (turned_if turned (drop at t)) (omega arith)) ∙ ap (take n) (take-turned_if ((n + 3) / 4) (drop at t) turned))

-- What is read at a cursor is the record of its number, and the next cursor stands at the next one.
pub record ReadRecord (turned : Bool) (t : List ℕ) (i : ℕ) (r : Range) : Type 0 where
  pub begins : r.span.first ≡ (record_at turned t i).load
  pub ends : r.span.last + 1 ≡ (record_at turned t i).load + length (record_at turned t i).bytes
  pub real : r.span.first ≤ r.span.last
  pub next : r.next.at ≡ place_of (row_of turned) t 0 r.next.number
  pub one_on : r.next.number ≡ i + 1

pub cursor_first : (turned : Bool) (t : List ℕ) (c : Cursor) → First 0 c → c.at ≡ place_of (row_of turned) t 0 c.number
cursor_first turned t c f = first_place_lem (row_of turned) t 0 c f

module _ (turned : Bool) (t : List ℕ) (n : ℕ) (h : Recorded turned t n) (c : Cursor) (e : c.at ≡ place_of (row_of turned) t 0 c.number) (l : c.number < n) where
  pub cursor_ready : AtRange (row_of turned) t c
  cursor_ready = at_range (row_of turned) t 0 n h.lined c e l

  pub cursor_reads : (r : Range) → RangeAt (row_of turned) t c r → ReadRecord turned t c.number r
  unfolding record_at load_of
  cursor_reads r k =
      let begins = rw e at k.begins in
      let size : row.size_from (row_of turned) t (place_of (row_of turned) t 0 c.number) ≡ size_of (row_of turned) t 0 c.number = unfold size_of in refl in
      let ends = rw (e, size) at k.ends in
      let real = record_real turned t n h c.number l in
      record {
        begins = begins;
        ends = rw (length_record turned t n h c.number l) ends;
        real = omega (arith, begins, ends, real);
        next = k.next ∙ rw (k.one_on, place_more, e);
        one_on = k.one_on;
      }
