-- The fields of a block of an image in an order; and at the place of each block, and at that of the end flag, the same stands whether the whole image is undone or only what begins there.
use Prim.Native.Nat.{ℕ, zero, suc, ◌+◌, ◌<◌, ◌≤◌}
use mathlib.Core.Path.{◌≡◌, refl, ap, sym, ◌∙◌}
use mathlib.Core.Bool.{true, false, not, ◌&&◌}
use mathlib.Core.List.{List, [], ◌∷◌}
use mathlib.Core.Logic.{⊎_elim}
use native.Mathlib.Nat.{eq-zero-or-pos}
use native.Mathlib.Numerals.{add-one}
use native.Mathlib.Omega.{arith}
use lib.ListN.{length, drop, length-drop}
use lib.Dec.{ltb, eqb}
use Rattle.fields.specs.Rules.{rule, Outcome, unless}
use Rattle.fields.specs.Program.{Block, no_block}
use Rattle.image.specs.Layout.{span_of, spans_of}
use Rattle.image.specs.Order.{number_in, undone, undone_from}
use Rattle.image.specs.Reading.{size_here, load_here, run_here, bytes_here, block_here, blocks_in}
use Rattle.image.specs.Asking.{Whereabouts}
use Rattle.image.specs.Standing.{stands_at, standing}
use Rattle.image.specs.Walking.{block_at, place_of, Framed}
use Rattle.image.specs.Steps.{FieldsIn}
use Rattle.ranges.specs.declared.row.Cursor.{Cursor}
use Rattle.image.specs.declared.walking.BlockHeader.{BlockHeader}
use Rattle.image.proofs.OrderLaws.{length-undone, length-undone_from}
use Rattle.image.proofs.UndoneLaws.{Alongside, alongside_first, alongside_from, alongside_next, size_here_lem, bytes_here_lem, fields_undone}
use Rattle.image.proofs.TableLaws.{length_here}
use Rattle.image.proofs.WalkingLaws.{stands_at_lem, place_more, framed_few}

-- What stands at a place is told by the image's length, by how much of it begins there, and by the block there where that is no end flag.
abbrev stood : ℕ → ℕ → ℕ → Block → ℕ → Outcome Whereabouts
stood long left size block place =
    unless
    (rule (ltb 16777216 long) 20 0 ∷ rule (ltb left 4) 21 0 ∷ rule (not (eqb size 0) && ltb left (span_of size)) 21 0 ∷ [])
    (elim (eqb size 0) [ true ↦ record { block = no_block; raw = 0 } | false ↦ record { block = block; raw = place + 12 } ])

module _ (u w : List ℕ) (place : ℕ) (long : length u ≡ length w) (size : size_here (drop place u) ≡ size_here (drop place w)) where
  left : length (drop place u) ≡ length (drop place w)
  left = omega (arith, length-drop place u, length-drop place w, long)

  same_flag : size_here (drop place w) ≡ 0 → standing u place ≡ standing w place
  unfolding standing stands_at
  same_flag e =
      let b = block_here (drop place u) in
      let c = block_here (drop place w) in
      let f = size ∙ e in
      let x : stood (length u) (length (drop place u)) (size_here (drop place u)) b place ≡ stood (length w) (length (drop place w)) 0 c place = λ i. stood (long i) (left i) (f i) b place in
      x ∙ (λ i. stood (length w) (length (drop place w)) (sym e i) c place)

  same_block : block_here (drop place u) ≡ block_here (drop place w) → standing u place ≡ standing w place
  unfolding standing stands_at
  same_block e = λ i. stood (long i) (left i) (size i) (e i) place

  same_standing : (0 < size_here (drop place w) → block_here (drop place u) ≡ block_here (drop place w)) → standing u place ≡ standing w place
  same_standing h = ⊎_elim (λ e. same_flag e) (λ r. same_block (h r)) (eq-zero-or-pos (size_here (drop place w)))

-- The fields that stand at a cursor, in the order.
module _ (order : ℕ) (s : List ℕ) (c : Cursor) where
  abbrev pub header : BlockHeader
  header =
      record {
        part =
            record {
              size = number_in order s c.at;
              load = record { 0 = number_in order s (c.at + 4) };
              run = record { 0 = number_in order s (c.at + 8) };
              raw = record { 0 = c.at + 12 };
            };
        next = record { at = c.at + span_of (number_in order s c.at); number = c.number + 1 };
      }

  pub header_read : FieldsIn order s c header
  header_read = record { size = refl; load = refl; run = refl; raw = refl; next = refl; one_on = refl }

-- Lists that both are the image undone from one place on have the same block there.
block_alike : (order : ℕ) (s u w : List ℕ) (c here : Cursor) → c.at ≡ here.at → Alongside order s u c → Alongside order s w here → 0 < number_in order s here.at → block_here (drop c.at u) ≡ block_here (drop here.at w)
unfolding block_here
block_alike order s u w c here e a b real =
    let real' : 0 < number_in order s c.at = rw e real in
    let f = fields_undone order s u c a (header order s c) (header_read order s c) real' in
    let g = fields_undone order s w here b (header order s here) (header_read order s here) real in
    let load : load_here (drop c.at u) ≡ load_here (drop here.at w) = sym f.load ∙ rw e g.load in
    let run : run_here (drop c.at u) ≡ run_here (drop here.at w) = sym f.run ∙ rw e g.run in
    let bytes : bytes_here (drop c.at u) ≡ bytes_here (drop here.at w) = bytes_here_lem order s u c a (number_in order s c.at) refl real' ∙ rw e (sym (bytes_here_lem order s w here b (number_in order s here.at) refl real)) in
    λ i. record { load = load i; run = run i; bytes = bytes i }

-- An image in an order that rules 20 to 26 do not refuse after undoing.
module _ (order : ℕ) (s : List ℕ) (framed : Framed (undone order s)) where
  abbrev u : List ℕ
  u = undone order s

  abbrev at_place : ℕ → Cursor
  at_place k = record { at = place_of u k; number = k }

  alongside : (k : ℕ) → k ≤ length (blocks_in u) → Alongside order s u (at_place k)
  alongside zero l = alongside_first order s (at_place 0) (record { place = unfold place_of in unfold spans_of in refl; number = refl })
  alongside (suc k) l =
      let a = alongside k (omega arith) in
      let st = stands_at_lem u framed k (omega arith) in
      let e = size_here_lem order s u (at_place k) a in
      let n : length (block_at u k).bytes ≡ number_in order s (place_of u k) = ap (λ (x : Block). length x.bytes) st.is ∙ length_here (drop (place_of u k) u) st.stands.whole ∙ e in
      let p : place_of u (suc k) ≡ place_of u k + span_of (number_in order s (place_of u k)) = rw (← (add-one k), place_more u k (omega arith), n) in
      rw (p, ← (add-one k))
      (alongside_next order s u (at_place k) a (header order s (at_place k)) (header_read order s (at_place k)) (rw (← e) st.real) (omega (arith, framed_few u framed)))

  pub stands_in : (k : ℕ) → k ≤ length (blocks_in (undone order s)) → standing (undone_from order (place_of (undone order s) k) s) (place_of (undone order s) k) ≡ standing (undone order s) (place_of (undone order s) k)
  stands_in k low =
      let place = place_of u k in
      let w = undone_from order place s in
      let a = alongside_from order s place in
      let b = alongside k low in
      let here : Cursor = record { at = place; number = 0 } in
      let size = size_here_lem order s w here a ∙ sym (size_here_lem order s u (at_place k) b) in
      same_standing w u place (length-undone_from order place s ∙ sym (length-undone order s)) size
      (λ r. block_alike order s w u here (at_place k) refl a b (rw (← (size_here_lem order s u (at_place k) b)) r))
