-- Where a name stands. In a header its bytes are counted up to a zero byte among eight; in the string table among those that lie inside table and file, and where none of these is zero it cannot be read.
use Prim.Native.Nat.{ℕ, ◌+◌, ◌-◌, ◌<◌, ◌≤◌, min}
use mathlib.Core.Path.{◌≡◌, refl, sym, ◌∙◌}
use mathlib.Core.Bool.{true, false, or-true}
use mathlib.Core.List.{List, []}
use lib.ListN.{length, take, drop, length-take, length-drop, drop_of_length-le}
use lib.Seq.{drop-nil, drop-drop}
use lib.Dec.{ltb}
use native.Mathlib.Omega.{arith}
use borrow.Author.Tests.{lt-ltb, le-ltb}
use Rattle.fields.specs.Number.{u32_at}
use Rattle.fields.proofs.PieceLaws.{drop-take, take_within}
use Rattle.patterns.specs.Zero.{up_to_zero, has_zero}
use Rattle.patterns.proofs.ZeroLaws.{take_up_to_zero, has_zero_lem, up_to_zero_short}
use Rattle.coff.specs.Names.{strings_begin, string_table, is_in_table, name_offset, from_offset, name_at, is_unreadable}

-- the bytes before a zero byte are some of those that were lent
pub few : (f : List ℕ) (from end n : ℕ) → n ≡ length (up_to_zero (take (end - from) (drop from f))) → n ≤ end - from
few f from end n e =
    let part = take (end - from) (drop from f) in
    let short : length part ≤ end - from = simp (length-take, length-drop) (omega arith) in
    omega (arith, up_to_zero_short part)

-- In the header.
module _ (f : List ℕ) (at : ℕ) (near : is_in_table f at ≡ false) where
  near_name : name_at f at ≡ up_to_zero (take 8 (drop at f))
  unfolding name_at
  near_name = rw near

  near_read : is_unreadable f at ≡ false
  unfolding is_unreadable
  near_read = rw near

  pub in_header : (width : ℕ) → width ≡ 8 → (n : ℕ) → n ≡ length (up_to_zero (take width (drop at f))) → (is_unreadable f at ≡ false) × (take n (take width (drop at f)) ≡ name_at f at)
  in_header width eight n e = (near_read, rw (near_name, e, eight) (take_up_to_zero (take 8 (drop at f))))

-- In the string table.

none_zero : has_zero [] ≡ false
unfolding has_zero
none_zero = refl

-- where in the file a name can stand: from its offset on, up to the end of table and file
pub record Room (f : List ℕ) (at offset from end : ℕ) : Type 0 where
  pub whole : strings_begin f + 4 ≤ length f
  pub by_offset : offset ≡ name_offset f at
  pub begins : from ≡ strings_begin f + offset
  pub ends : end ≡ min (strings_begin f + u32_at f (strings_begin f)) (length f)

module _ (f : List ℕ) (at : ℕ) (far : is_in_table f at ≡ true) where
  far_name : name_at f at ≡ up_to_zero (from_offset f at)
  unfolding name_at
  far_name = rw far

  far_read : 4 ≤ name_offset f at → has_zero (from_offset f at) ≡ true → is_unreadable f at ≡ false
  unfolding is_unreadable
  far_read q h = rw (far, le-ltb (name_offset f at) 4 q, h)

  pub offset_early : name_offset f at < 4 → is_unreadable f at ≡ true
  unfolding is_unreadable
  offset_early h = rw (far, lt-ltb (name_offset f at) 4 h)

  no_zero : has_zero (from_offset f at) ≡ false → is_unreadable f at ≡ true
  unfolding is_unreadable
  no_zero h = rw (far, h) (or-true (ltb (name_offset f at) 4))

  nothing_there : from_offset f at ≡ [] → is_unreadable f at ≡ true
  nothing_there e = no_zero (rw e none_zero)

  no_table : length f < strings_begin f + 4 → from_offset f at ≡ []
  unfolding from_offset string_table
  no_table h = rw (lt-ltb (length f) (strings_begin f + 4) h) (drop-nil (name_offset f at))

  pub table_cut : length f < strings_begin f + 4 → is_unreadable f at ≡ true
  table_cut h = nothing_there (no_table h)

  module _ {offset from end : ℕ} (r : Room f at offset from end) where
    held_on : from_offset f at ≡ drop (name_offset f at) (take (u32_at f (strings_begin f)) (drop (strings_begin f) f))
    unfolding from_offset string_table
    held_on = rw (le-ltb (length f) (strings_begin f + 4) r.whole)

    pub behind_table : end ≤ from → is_unreadable f at ≡ true
    behind_table h =
        let table = take (u32_at f (strings_begin f)) (drop (strings_begin f) f) in
        let short : length table ≤ name_offset f at = simp (length-take, length-drop) (omega arith) in
        nothing_there (held_on ∙ drop_of_length-le table short)

    -- the part of the file that a name has to end in
    module _ (h : from ≤ end) (piece : List ℕ) (p : piece ≡ take (end - from) (drop from f)) where
      piece_is : from_offset f at ≡ piece
      piece_is =
          let k = u32_at f (strings_begin f) - offset in
          let long : u32_at f (strings_begin f) ≡ name_offset f at + k = omega arith in
          let on : strings_begin f + name_offset f at ≡ from = omega arith in
          let most : end - from ≡ min k (length (drop from f)) = rw (length-drop from f) (omega arith) in
          held_on ∙ rw (long, drop-take (name_offset f at) k (drop (strings_begin f) f), drop-drop, on) (take_within k (end - from) (drop from f) most) ∙ sym p

      module _ (n : ℕ) (c : n ≡ length (up_to_zero piece)) where
        pub never_ends : length piece ≤ n → is_unreadable f at ≡ true
        never_ends l =
            no_zero (rw (piece_is, has_zero_lem, ← c) (le-ltb n (length piece) l))

        pub in_table : n < length piece → 4 ≤ offset → (is_unreadable f at ≡ false) × (take n piece ≡ name_at f at)
        in_table l q =
            let ended : has_zero piece ≡ true = rw (has_zero_lem, ← c) (lt-ltb n (length piece) l) in
            (far_read (omega arith) (rw piece_is ended), rw (far_name, piece_is, c) (take_up_to_zero piece))
