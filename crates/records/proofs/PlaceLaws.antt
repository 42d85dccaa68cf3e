-- A record that begins at a multiple of four: what is read there is what its table has there, after undoing.
use Prim.Native.Nat.{ℕ, ◌+◌, ◌*◌, ◌-◌, ◌/◌, ◌≤◌}
use mathlib.Core.Path.{◌≡◌, ap, sym, ◌∙◌}
use mathlib.Core.Bool.{Bool, false}
use mathlib.Core.List.{List}
use native.Mathlib.Nat.{add-zero}
use native.Mathlib.Omega.{arith}
use lib.ListN.{length, take, drop, length-drop}
use lib.Seq.{take-length, take-take, drop-drop, length-take-le}
use Rattle.fields.specs.Number.{number, field_at, u32_at}
use Rattle.fields.specs.Turning.{turned_if}
use Rattle.fields.proofs.NumberLaws.{u32_drop}
use Rattle.fields.proofs.PieceLaws.{drop-take}
use Rattle.fields.proofs.TurningLaws.{length-turned_if, take-turned_if, drop-turned_if}
use Rattle.ranges.specs.Row.{number_of, size_from, load_from}
use Rattle.records.specs.Records.{size_here, address_here, record_here, after_record, room_of}
use Rattle.records.specs.Walking.{row_of}

-- a piece of a front part is a piece of the whole
piece_front : (n at size : ℕ) (l : List ℕ) → at + n ≤ size → take n (drop at (take size l)) ≡ take n (drop at l)
piece_front n at size l h =
    let e : size ≡ at + (size - at) = omega arith in
    rw e (ap (take n) (drop-take at (size - at) l) ∙ take-take n (size - at) (drop at l) (omega arith))

-- a table as it stands, in its own bytes and no more
pub plain_table : (t : List ℕ) → take (length t) (turned_if false t) ≡ t
unfolding turned_if
plain_table t = take-length t

module _ (turned : Bool) (t : List ℕ) (size : ℕ) where
  abbrev table : List ℕ
  table = take size (turned_if turned t)

  pub length_table : size ≤ length t → length (take size (turned_if turned t)) ≡ size
  length_table h = length-take-le size (turned_if turned t) (rw (length-turned_if t turned) h)

  pub length_rest : (at : ℕ) → size ≤ length t → length (drop at (take size (turned_if turned t))) ≡ size - at
  length_rest at h = length-drop at table ∙ rw (length_table h)

  number_here : (m : ℕ) → 4 * m + 4 ≤ size → number_of (row_of turned) t (4 * m) ≡ u32_at table (4 * m)
  unfolding number_of u32_at field_at
  number_here m h =
      sym (ap number (piece_front 4 (4 * m) size (turned_if turned t) h ∙ rw (drop-turned_if m t turned) (take-turned_if 1 (drop (4 * m) t) turned)))

  pub number_at : (at : ℕ) → at ≡ 4 * (at / 4) → at + 4 ≤ size → number_of (row_of turned) t at ≡ u32_at (take size (turned_if turned t)) at
  number_at at e h = rw e (number_here (at / 4) (omega arith))

  -- a record that begins at a multiple of eight
  module _ (at : ℕ) (e : at ≡ 8 * (at / 8)) where
    pub size_at : at + 4 ≤ size → size_from (row_of turned) t at ≡ size_here (drop at (take size (turned_if turned t)))
    unfolding size_from size_here
    size_at h = number_at at (omega arith) h ∙ sym (u32_drop table at 0 ∙ rw add-zero)

    pub load_at : at + 8 ≤ size → load_from (row_of turned) t at ≡ address_here (drop at (take size (turned_if turned t)))
    unfolding load_from address_here
    load_at h = number_at (at + 4) (omega arith) (omega arith) ∙ sym (u32_drop table at 4)

    pub record_at_lem : at + 8 + size_from (row_of turned) t at ≤ size → record_here (drop at (take size (turned_if turned t))) ≡ record { load = load_from (row_of turned) t at; run = load_from (row_of turned) t at; bytes = take (size_from (row_of turned) t at) (drop (at + 8) (turned_if turned t)) }
    unfolding record_here
    record_at_lem h =
        let n = size_from (row_of turned) t at in
        let bytes : take n (drop 8 (drop at table)) ≡ take n (drop (at + 8) (turned_if turned t)) = rw (drop-drop 8 at table) (piece_front n (at + 8) size (turned_if turned t) h) in
        rw (← (size_at (omega arith)), ← (load_at (omega arith)), bytes)

-- the next record begins behind the room of the one at a place
pub after_at : (l : List ℕ) (at : ℕ) → after_record (drop at l) ≡ drop (at + room_of (size_here (drop at l))) l
unfolding after_record
after_at l at = drop-drop (room_of (size_here (drop at l))) at l
