-- A row of ranges: each stands behind the one before it, and what is read at a cursor is the range of its number.
use Prim.Native.Nat.{ℕ, zero, suc, ◌+◌, ◌-◌, ◌<◌, ◌≤◌}
use mathlib.Core.Path.{◌≡◌, refl, sym, ap, ◌∙◌}
use mathlib.Core.Bool.{true, false}
use mathlib.Core.List.{List}
use native.Mathlib.Nat.{add-zero, add-suc}
use native.Mathlib.Numerals.{add-one}
use native.Mathlib.Omega.{arith}
use lib.ListN.{length}
use Rattle.std.proofs.Common.{Some, None}
use Rattle.fields.specs.Counting.{any_below, found_below}
use Rattle.fields.specs.Number.{number, le32, u32_at, Bytes}
use Rattle.fields.specs.Turning.{turned, turned_if}
use Rattle.fields.proofs.CountingLaws.{any_none, any_more, found_none, found_some}
use Rattle.fields.proofs.TurnedNumberLaws.{turned_field}
use Rattle.ranges.specs.Held.{meets_held}
use Rattle.ranges.specs.Row.{number_of, room_in, room_of, size_from, next_from, place_of, load_of, size_of, Lined, meets_held_at}
use Rattle.ranges.specs.Steps.{First, AtRange, RangeAt, load_in, size_in, Here, Ready, RangeOf}
use Rattle.ranges.specs.declared.lined.Ranges.{Ranges}
use Rattle.ranges.specs.declared.row.Cursor.{Cursor}
use Rattle.ranges.specs.declared.row.Range.{Range}
use Rattle.ranges.specs.declared.row.Kind.{Kind}
use Rattle.ranges.specs.declared.row.Kind.TheVariants.{Blocks, Records}
use Rattle.ranges.specs.declared.row.Row.{Row}

-- a number as it is read, reversed or not

module _ (row : Row) (s : List ℕ) (at : ℕ) where
  pub number-turned : row.turned ≡ true → Bytes s → at + 4 ≤ length s → number (turned (le32 (u32_at s at))) ≡ number_of row s at
  unfolding number_of turned_if
  number-turned e b l = rw e (ap number (turned_field s at b l))

  pub number_plain : row.turned ≡ false → u32_at s at ≡ number_of row s at
  unfolding number_of turned_if u32_at
  number_plain e = rw e

-- the room of a range is that of its fields at least, and not much more than its size
pub room_bounds : (row : Row) (size : ℕ) → (8 ≤ room_of row size) × (room_of row size ≤ size + 15)
unfolding room_of
room_bounds row size = go row.kind
  where
    go : (kind : Kind) → (8 ≤ room_in kind size) × (room_in kind size ≤ size + 15)
    go Blocks = (omega arith, omega arith)
    go Records = (omega arith, omega arith)

module _ (row : Row) (s : List ℕ) (at : ℕ) where
  pub place_none : place_of row s at 0 ≡ at
  unfolding place_of
  place_none = refl

  pub place_more : (i : ℕ) → place_of row s at (i + 1) ≡ next_from row s (place_of row s at i)
  unfolding place_of
  place_more i = rw add-one

  pub first_place_lem : (c : Cursor) → First at c → c.at ≡ place_of row s at c.number
  first_place_lem c f = f.place ∙ rw (f.number, place_none)

  -- each range takes up a byte at least
  pub place_low : (i : ℕ) → at + i ≤ place_of row s at i
  unfolding place_of next_from
  place_low zero = omega arith
  place_low (suc i) = omega (arith, place_low i, room_bounds row (size_from row s (place_of row s at i)))

  pub lined_fewer : (count n : ℕ) → n ≤ count → Lined row s at count → Lined row s at n
  lined_fewer count n l h = record { short = h.short; each = λ i k. h.each i (omega arith) }

  pub lined_real : (count : ℕ) → Lined row s at count → (i : ℕ) → i < count → 0 < size_of row s at i
  unfolding size_of
  lined_real count h i l = (h.each i l).real

  pub at_range : (count : ℕ) → Lined row s at count → (c : Cursor) → c.at ≡ place_of row s at c.number → c.number < count → AtRange row s c
  at_range count h c e l = record { short = h.short; stands = rw e (h.each c.number l); few = omega (arith, e, place_low c.number) }

  -- counted from the range of number p on
  pub place_further : (p k : ℕ) → place_of row s (place_of row s at p) k ≡ place_of row s at (p + k)
  unfolding place_of
  place_further p zero = rw add-zero
  place_further p (suc k) = rw (add-suc, place_further p k)

  pub load_further : (p k : ℕ) → load_of row s (place_of row s at p) k ≡ load_of row s at (p + k)
  unfolding load_of
  load_further p k = rw (place_further p k)

  pub size_further : (p k : ℕ) → size_of row s (place_of row s at p) k ≡ size_of row s at (p + k)
  unfolding size_of
  size_further p k = rw (place_further p k)

-- What is read at a cursor is the range of its number.
module _ (all : Ranges) where
  pub here_first : (c : Cursor) → First all.at c → Here all c
  here_first c f = record { place = first_place_lem all.row all.bytes.now all.at c f }

  pub ready_at : (c : Cursor) → Ready all c → AtRange all.row all.bytes.now c
  ready_at c ready = at_range _ _ _ _ all.lined c ready.here.place ready.more

  pub range_of : (c : Cursor) → Ready all c → (r : Range) → RangeAt all.row all.bytes.now c r → RangeOf all c.number r
  unfolding load_of size_of
  range_of c ready r t =
      let e = ready.here.place in
      let real = (all.lined.each c.number ready.more).real in
      let begins = rw e at t.begins in
      let ends = rw e at t.ends in
      record {
        begins = begins;
        ends = ends;
        real = omega (arith, begins, ends, real);
        next = record { place = t.next ∙ rw (t.one_on, place_more, e) };
        one_on = t.one_on;
      }

-- No range before the cursor shares an address with one of those held.
pub record Passed (all : Ranges) (firsts lasts : List ℕ) (c : Cursor) : Type 0 where
  pub here : Here all c
  pub few : c.number ≤ all.count
  pub none : any_below (meets_held_at all.row all.bytes.now all.at firsts lasts) c.number ≡ false

module _ (all : Ranges) (firsts lasts : List ℕ) where
  pub passed_first : (c : Cursor) → First all.at c → Passed all firsts lasts c
  passed_first c f = record { here = here_first all c f; few = omega (arith, f.number); none = rw f.number (any_none _) }

  module _ (c : Cursor) (v : Passed all firsts lasts c) where
    pub passed_all : all.count ≤ c.number → None ≡ found_below (meets_held_at all.row all.bytes.now all.at firsts lasts) all.count
    passed_all l = let e : all.count ≡ c.number = omega (arith, v.few) in found_none _ all.count (rw e v.none)

    module _ (l : c.number < all.count) (r : Range) (t : RangeOf all c.number r) where
      asked : meets_held firsts lasts r.span.first r.span.last ≡ meets_held_at all.row all.bytes.now all.at firsts lasts c.number
      unfolding meets_held_at
      asked =
          let last : r.span.last ≡ load_in all c.number + size_in all c.number - 1 = omega (arith, t.ends) in
          rw (t.begins, last)

      pub passed_on : meets_held firsts lasts r.span.first r.span.last ≡ false → Passed all firsts lasts r.next
      passed_on e =
          record {
            here = t.next;
            few = omega (arith, t.one_on);
            none = rw t.one_on (any_more _ c.number v.none (sym asked ∙ e));
          }

      pub passed_found : meets_held firsts lasts r.span.first r.span.last ≡ true → Some c.number ≡ found_below (meets_held_at all.row all.bytes.now all.at firsts lasts) all.count
      passed_found e = found_some _ all.count c.number l v.none (sym asked ∙ e)
