-- Records are counted one by one: the answer from the start is the answer from here.
use Prim.Native.Nat.{ℕ, suc, ◌+◌, ◌*◌, ◌-◌, ◌/◌, ◌^◌, ◌<◌, ◌≤◌}
use mathlib.Core.Path.{◌≡◌, refl, ap, sym, ◌∙◌}
use mathlib.Core.Bool.{Bool, true, false}
use mathlib.Core.List.{List, [], ◌∷◌}
use native.Mathlib.Omega.{arith}
use lib.ListN.{length, take, drop, length-drop}
use Rattle.fields.specs.Turning.{turned_if}
use Rattle.ranges.specs.Row.{number_of, size_from, load_from}
use Rattle.ranges.specs.Row as row
use Rattle.records.specs.Records.{size_here, address_here, room_of, are_sound, records_from, is_readable, records_in}
use Rattle.records.specs.Counting.{counted_of}
use Rattle.records.specs.Walking.{row_of}
use Rattle.std.proofs.Common.{Some, None}
use Rattle.records.proofs.StepLaws.{Whole, sound_cut, sound_end, records_end, sound_short, sound_far, sound_on, records_on}
use Rattle.records.proofs.PlaceLaws.{length_table, size_at, load_at, after_at}

-- So many records of a table stand before a place, which is a multiple of eight, and the rest decides.
pub record Counting (table : List ℕ) (at records : ℕ) : Type 0 where
  pub few : records ≤ at
  pub whole : at ≡ 8 * (at / 8)
  pub sound : is_readable table ≡ are_sound (length table - records) (drop at table)
  pub count : length (records_in table) ≡ records + length (records_from (length table - records) (drop at table))

drop_none : (l : List ℕ) → drop 0 l ≡ l
drop_none [] = refl
drop_none (b ∷ l) = refl

pub counting_first : (table : List ℕ) → Counting table 0 0
unfolding is_readable records_in
counting_first table =
    let e : length table - 0 ≡ length table = omega arith in
    record {
      few = omega arith;
      whole = refl;
      sound = rw (e, drop_none);
      count = rw (e, drop_none) (omega arith);
    }

-- Of any table, by what stands in it.
module _ (table : List ℕ) where
  unsound : is_readable table ≡ false → None ≡ counted_of table
  unfolding counted_of
  unsound e = rw e

  sound_is : (n : ℕ) → is_readable table ≡ true → length (records_in table) ≡ n → Some n ≡ counted_of table
  unfolding counted_of
  sound_is n e k = rw (e, k)

  module _ (at records : ℕ) (g : Counting table at records) where
    -- one turn more
    left : at + 4 ≤ length table → length table - records ≡ suc (length table - (records + 1))
    left h = omega (arith, g.few)

    counted_cut : length table < at + 4 → None ≡ counted_of table
    counted_cut h =
        unsound (g.sound ∙ sound_cut (drop at table) (length table - records) (rw (length-drop at table) (omega arith)))

    module _ (h : at + 4 ≤ length table) where
      long : 4 ≤ length (drop at table)
      long = rw (length-drop at table) (omega arith)

      counted_end : size_here (drop at table) ≡ 0 → Some records ≡ counted_of table
      counted_end e =
          sound_is records
          (g.sound ∙ rw (left h) (sound_end (drop at table) (length table - (records + 1)) long e))
          (g.count ∙ rw (records_end (drop at table) (length table - records) e) (omega arith))

      module _ (size : ℕ) (is : size ≡ size_here (drop at table)) (real : 0 < size) where
        real_here : 0 < size_here (drop at table)
        real_here = omega (arith, is)

        counted_short : length table - at < 8 + size → None ≡ counted_of table
        counted_short l =
            unsound
            (g.sound
            ∙ rw (left h) (sound_short (drop at table) (length table - (records + 1)) long real_here (rw (length-drop at table) (omega (arith, is)))))

        module _ (load : ℕ) (is' : load ≡ address_here (drop at table)) where
          counted_far : 2 ^ 32 < load + size → None ≡ counted_of table
          counted_far l =
              unsound
              (g.sound
              ∙ rw (left h) (sound_far (drop at table) (length table - (records + 1)) long real_here (omega (arith, is, is'))))

          counted_on : 8 + size ≤ length table - at → load + size ≤ 2 ^ 32 → (room : ℕ) → room ≡ 8 + (size + 7) / 8 * 8 → Counting table (at + room) (records + 1)
          unfolding room_of
          counted_on l k room r =
              let w : Whole (drop at table) = record { real = real_here; within = rw (length-drop at table) (omega (arith, is)); loads = omega (arith, is, is') } in
              let turns = length table - (records + 1) in
              let here : room_of (size_here (drop at table)) ≡ room = unfold room_of in omega (arith, is, r) in
              let e = g.whole in
              record {
                few = omega (arith, r, g.few);
                whole = omega (arith, e, r);
                sound = g.sound ∙ rw (left h) (sound_on (drop at table) turns w ∙ ap (are_sound turns) (after_at table at ∙ rw here));
                count =
                    g.count
                    ∙ rw (left h, records_on (drop at table) turns real_here, after_at table at, here) (omega arith);
              }

-- the room of a record, as numbers
pub record_room : (turned : Bool) (n room : ℕ) → room ≡ row.room_of (row_of turned) n → room ≡ 8 + (n + 7) / 8 * 8
unfolding row.room_of
record_room turned n room e = e

-- Of a table where it stands, by the numbers that are read there.
module _ (turned : Bool) (t : List ℕ) (size : ℕ) (inside : size ≤ length t) (at records : ℕ) (g : Counting (take size (turned_if turned t)) at records) where
  abbrev table : List ℕ
  table = take size (turned_if turned t)

  long_table : length table ≡ size
  long_table = length_table turned t size inside

  pub table_cut : size < at + 4 → None ≡ counted_of (take size (turned_if turned t))
  table_cut h = counted_cut table at records g (omega (arith, long_table))

  module _ (h : at + 4 ≤ size) (n : ℕ) (is : n ≡ number_of (row_of turned) t at) where
    size_is : n ≡ size_here (drop at table)
    unfolding size_from
    size_is = is ∙ (unfold size_from in size_at turned t size at g.whole h)

    pub table_end : n ≡ 0 → Some records ≡ counted_of (take size (turned_if turned t))
    table_end e = counted_end table at records g (omega (arith, long_table)) (sym size_is ∙ e)

    module _ (real : 0 < n) where
      pub table_short : size - at < 8 + n → None ≡ counted_of (take size (turned_if turned t))
      table_short l = counted_short table at records g (omega (arith, long_table)) n size_is real (omega (arith, long_table))

      module _ (l : 8 + n ≤ size - at) (load : ℕ) (is' : load ≡ number_of (row_of turned) t (at + 4)) where
        load_is : load ≡ address_here (drop at table)
        load_is = is' ∙ (unfold load_from in load_at turned t size at g.whole (omega arith))

        pub table_far : 2 ^ 32 < load + n → None ≡ counted_of (take size (turned_if turned t))
        table_far k = counted_far table at records g (omega (arith, long_table)) n size_is real load load_is k

        pub table_on : load + n ≤ 2 ^ 32 → (room : ℕ) → room ≡ row.room_of (row_of turned) n → Counting (take size (turned_if turned t)) (at + room) (records + 1)
        table_on k room r =
            counted_on table at records g (omega (arith, long_table)) n size_is real load load_is (omega (arith, long_table)) k room (record_room turned n room r)
