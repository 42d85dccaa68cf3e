-- The records of a table that is read well are those that stand where the table does, one behind the other.
use Prim.Native.Nat.{ℕ, zero, suc, ◌+◌, ◌*◌, ◌-◌, ◌/◌, ◌<◌, ◌≤◌}
use mathlib.Core.Path.{◌≡◌, refl, ap, sym, ◌∙◌}
use mathlib.Core.Bool.{Bool, true, false}
use mathlib.Core.List.{List, [], ◌∷◌, ◌++◌, append_assoc, append-nil}
use mathlib.Core.Logic.{⊎_elim}
use native.Mathlib.Nat.{eq-or-lt_of_le, le_of_suc-le-suc}
use native.Mathlib.Numerals.{add-one}
use native.Mathlib.Omega.{arith}
use lib.ListN.{length, take, drop, length-append}
use Rattle.fields.specs.Program.{Block}
use Rattle.fields.specs.Turning.{turned_if}
use Rattle.fields.proofs.TestLaws.{le_or_lt}
use Rattle.ranges.specs.Row.{size_from, load_from, place_of, load_of, size_of, Stands}
use Rattle.records.specs.Records.{size_here, address_here, record_here, room_of, are_sound, records_from, is_readable, records_in}
use Rattle.records.specs.Walking.{row_of, record_at, records_at, Recorded}
use Rattle.records.proofs.StepLaws.{Whole, records_end, sound_on, records_on, sound_long, sound_whole}
use Rattle.records.proofs.PlaceLaws.{plain_table, length_table, length_rest, size_at, load_at, record_at_lem, after_at}
use Rattle.records.proofs.RecordLaws.{records_none, records_more, length_records, place_first, place_next, place_whole, place_low}

-- So many records of a table are walked over: they stand where it does, and what is left of it is sound.
record Walked (turned : Bool) (t : List ℕ) (size k : ℕ) : Type 0 where
  sound : are_sound (size - k) (drop (place_of (row_of turned) t 0 k) (take size (turned_if turned t))) ≡ true
  all : records_in (take size (turned_if turned t)) ≡ records_at turned t k ++ records_from (size - k) (drop (place_of (row_of turned) t 0 k) (take size (turned_if turned t)))
  each : (i : ℕ) → i < k → Stands (row_of turned) t (place_of (row_of turned) t 0 i)
  inside : (i : ℕ) → i < k → place_of (row_of turned) t 0 i + 8 + (size_of (row_of turned) t 0 i + 3) / 4 * 4 ≤ length t

drop_none : (l : List ℕ) → drop 0 l ≡ l
drop_none [] = refl
drop_none (b ∷ l) = refl

module _ (turned : Bool) (t : List ℕ) (size : ℕ) (within : size ≤ length t) where
  abbrev table : List ℕ
  table = take size (turned_if turned t)

  walked_first : is_readable table ≡ true → Walked turned t size 0
  unfolding is_readable records_in
  walked_first h =
      let e : size - 0 ≡ length table = omega (arith, length_table turned t size within) in
      record {
        sound = rw (e, place_first turned t, drop_none table) h;
        all = rw (e, place_first turned t, drop_none table, records_none turned t);
        each = λ i l. absurd (omega arith);
        inside = λ i l. absurd (omega arith);
      }

  module _ (k : ℕ) (w : Walked turned t size k) (more : k < length (records_in table)) where
    abbrev at : ℕ
    at = place_of (row_of turned) t 0 k

    abbrev rest : List ℕ
    rest = drop at table

    abbrev turns : ℕ
    turns = size - (k + 1)

    four : at + 4 ≤ size
    four = omega (arith, sound_long rest (size - k) w.sound, length_rest turned t size at within)

    left : size - k ≡ suc turns
    left = omega (arith, four, place_low turned t k)

    sound_here : are_sound (suc turns) rest ≡ true
    sound_here = rw (← left) w.sound

    real : 0 < size_here rest
    real =
        ⊎_elim
        (λ h. h)
        (λ h.
        let e : size_here rest ≡ 0 = omega arith in
        let all : records_in table ≡ records_at turned t k = w.all ∙ rw (records_end rest (size - k) e, append-nil) in
        let n = ap (λ (bs : List Block). length bs) all in
        absurd (omega (arith, n, length_records turned t k)))
        (le_or_lt 1 (size_here rest))

    whole : Whole rest
    whole = sound_whole rest turns sound_here real

    ends : at + 8 + size_here rest ≤ size
    ends = omega (arith, whole.within, length_rest turned t size at within)

    size_is : size_from (row_of turned) t at ≡ size_here rest
    size_is = size_at turned t size at (place_whole turned t k) four

    size_of_lem : size_of (row_of turned) t 0 k ≡ size_here rest
    unfolding size_of
    size_of_lem = size_is

    load_is : load_from (row_of turned) t at ≡ address_here rest
    load_is = load_at turned t size at (place_whole turned t k) (omega (arith, ends))

    next_is : at + room_of (size_here rest) ≡ place_of (row_of turned) t 0 (k + 1)
    unfolding room_of
    next_is = sym (place_next turned t k ∙ rw size_of_lem)

    record_is : record_here rest ≡ record_at turned t k
    unfolding record_at load_of size_of
    record_is = record_at_lem turned t size at (place_whole turned t k) (omega (arith, ends, size_is))

    sound_next : are_sound turns (drop (place_of (row_of turned) t 0 (k + 1)) table) ≡ true
    sound_next =
        sym (sound_on rest turns whole ∙ ap (are_sound turns) (after_at table at ∙ rw next_is)) ∙ sound_here

    four_next : place_of (row_of turned) t 0 (k + 1) + 4 ≤ size
    four_next =
        omega (arith, sound_long (drop (place_of (row_of turned) t 0 (k + 1)) table) turns sound_next, length_rest turned t size (place_of (row_of turned) t 0 (k + 1)) within)

    stands_here : Stands (row_of turned) t at
    stands_here = record { within = omega (arith, ends, within); real = omega (arith, real, size_is); loads = omega (arith, size_is, load_is, whole.loads) }

    inside_here : at + 8 + (size_of (row_of turned) t 0 k + 3) / 4 * 4 ≤ length t
    inside_here = omega (arith, place_next turned t k, four_next, within)

    walked_on : Walked turned t size (k + 1)
    walked_on =
        record {
          sound = sound_next;
          all =
              w.all
              ∙ rw (left, records_on rest turns real, record_is, after_at table at, next_is, records_more turned t k)
              (sym (append_assoc (records_at turned t k) (record_at turned t k ∷ []) (records_from turns (drop (place_of (row_of turned) t 0 (k + 1)) table))));
          each = λ i l. ⊎_elim (λ e. rw e stands_here) (λ m. w.each i m) (eq-or-lt_of_le (le_of_suc-le-suc (rw add-one at l)));
          inside = λ i l. ⊎_elim (λ e. rw e inside_here) (λ m. w.inside i m) (eq-or-lt_of_le (le_of_suc-le-suc (rw add-one at l)));
        }

  walked : is_readable table ≡ true → (k : ℕ) → k ≤ length (records_in table) → Walked turned t size k
  walked h zero l = walked_first h
  walked h (suc k) l = rw (← (add-one k)) (walked_on k (walked h k (omega arith)) (omega arith))

  -- .. of all records

  pub records_here : is_readable (take size (turned_if turned t)) ≡ true → records_in (take size (turned_if turned t)) ≡ records_at turned t (length (records_in (take size (turned_if turned t))))
  records_here h =
      let n = length (records_in table) in
      let w = walked h n (omega arith) in
      let behind = records_from (size - n) (drop (place_of (row_of turned) t 0 n) table) in
      let m = ap (λ (bs : List Block). length bs) w.all ∙ length-append (records_at turned t n) behind in
      let none : length behind ≡ 0 = omega (arith, m, length_records turned t n) in
      w.all ∙ rw (no_blocks behind none, append-nil)
    where
      no_blocks : (bs : List Block) → length bs ≡ 0 → bs ≡ []
      no_blocks [] e = refl
      no_blocks (b ∷ bs) e = absurd (omega arith)

  pub recorded_here : length t ≤ 16777216 → is_readable (take size (turned_if turned t)) ≡ true → Recorded turned t (length (records_in (take size (turned_if turned t))))
  recorded_here short h =
      let w = walked h (length (records_in table)) (omega arith) in
      record { lined = record { short = short; each = w.each }; inside = w.inside }

-- A table as it stands, in its own bytes and no more.
module _ (t : List ℕ) (h : is_readable t ≡ true) where
  pub plain_records : records_in t ≡ records_at false t (length (records_in t))
  plain_records = rw (plain_table t) at (records_here false t (length t) (omega arith) (rw (plain_table t) h))

  pub plain_recorded : length t ≤ 16777216 → Recorded false t (length (records_in t))
  plain_recorded short = rw (plain_table t) at (recorded_here false t (length t) (omega arith) short (rw (plain_table t) h))
