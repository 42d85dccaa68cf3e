-- An image is made block by block: what each section adds to its length, to the number of blocks and to its bytes.
use Prim.Native.Nat.{ℕ, zero, suc, ◌+◌, ◌<◌, ◌≤◌}
use mathlib.Core.Path.{◌≡◌, refl, sym, ◌∙◌, ap}
use mathlib.Core.List.{List, [], ◌∷◌, ◌++◌, append-nil}
use native.Mathlib.Nat.{add_assoc, eq-or-lt_of_le, le_of_suc-le-suc}
use native.Mathlib.Numerals.{add-one}
use native.Mathlib.Omega.{arith}
use mathlib.Core.Logic.{⊎_elim}
use lib.ListN.{length, take, drop, length-append, length-map}
use Rattle.fields.specs.Patch.{patch}
use Rattle.fields.specs.Counting.{joined}
use Rattle.fields.specs.Program.{Block, blocks_of_parts, blocks_of, program_of}
use Rattle.fields.proofs.CountingLaws.{joined_none, joined_more, blocks_joined}
use Rattle.coff.specs.declared.Sections.{Sections}
use Rattle.coff.specs.Parts.{part_at, parts_of, source_of, ReadOf, TellsKept}
use Rattle.coff.proofs.PartLaws.{length_piece, count_few, part_cases}
use Rattle.fields.proofs.PatchLaws.{patch-append, patch_then}
use Rattle.image.specs.Layout.{number_bytes, span_of, area_of, image_of, spans_of, image_length}
use Rattle.image.specs.Order.{numbers_in, area_in, written}
use Rattle.image.specs.Spelling.{spelled_block, spelled_blocks, spelled}
use Rattle.image.proofs.NumberLaws.{length-number}
use Rattle.image.proofs.OrderLaws.{length_numbers}
use Rattle.image.proofs.LayoutLaws.{spans_append, spans_nil}
use Rattle.image.proofs.SpellingLaws.{spelled_nil, spelled_one, spelled_append, spelled_parts, length_spelled, Fit, fit_append, flag_in, written_spelled}

-- One block.

pub spans_one : (b : Block) → spans_of (b ∷ []) ≡ span_of (length b.bytes)
unfolding spans_of
spans_one b = omega arith

-- its four parts, written one after the other
pub block_written : (order : ℕ) (xs : List ℕ) (at load run : ℕ) (raw : List ℕ) →
    patch (patch (patch (patch xs at (numbers_in order (number_bytes (length raw)))) (at + 4) (numbers_in order (number_bytes load))) (at + 8) (numbers_in order (number_bytes run))) (at + 12) (area_in order (area_of raw))
    ≡ patch xs at (spelled_block order (record { load = load; run = run; bytes = raw }))
block_written order xs at load run raw = simp (spelled_parts, patch-append, length_numbers, length-number, add_assoc)

-- One section: nothing where it is left ..

module _ (f : List ℕ) (s : Sections) (i : ℕ) where
  abbrev here : List Block
  here = blocks_of_parts (part_at f s i)

  module _ (left : part_at f s i ≡ []) where
    pub spans_left : spans_of here ≡ 0
    spans_left = rw left spans_nil

  -- .. and the part of the file that it names where it is kept.
  module _ (size load run raw : ℕ) (t : TellsKept f s i size load run raw) where
    abbrev piece : List ℕ
    piece = take size (drop raw f)

    pub piece_long : length piece ≡ size
    piece_long = length_piece f raw size t.within

    pub spans_kept : spans_of here ≡ span_of size
    spans_kept = rw (t.part, spans_one) (ap span_of piece_long)

    pub spans_piece : span_of (length piece) ≡ spans_of here
    spans_piece = ap span_of piece_long ∙ sym spans_kept

    pub image_kept : (order : ℕ) → spelled_block order (record { load = load; run = run; bytes = piece }) ≡ spelled_blocks order here
    image_kept order = rw (t.part, spelled_one)

-- The sections below i, and one more.

module _ (f : List ℕ) (s : Sections) where
  abbrev below : ℕ → List Block
  below i = blocks_of_parts (joined (part_at f s) i)

  pub spans_none : spans_of (below 0) ≡ 0
  spans_none = rw (joined_none (part_at f s)) spans_nil

  pub image_none : (order : ℕ) → spelled_blocks order (below 0) ≡ []
  image_none order = rw (joined_none (part_at f s)) (spelled_nil order)

  pub spans_more : (i : ℕ) → spans_of (below (i + 1)) ≡ spans_of (below i) + spans_of (here f s i)
  spans_more i = rw (blocks_joined (part_at f s) i, spans_append)

  pub count_more : (i : ℕ) → length (joined (part_at f s) (i + 1)) ≡ length (joined (part_at f s) i) + length (part_at f s i)
  count_more i = rw (joined_more (part_at f s) i, length-append)

  spans_le : (i n : ℕ) → i ≤ n → spans_of (below i) ≤ spans_of (below n)
  spans_le i zero h = let e : i ≡ 0 = omega arith in rw e (omega arith)
  spans_le i (suc n) h =
      let more = rw (add-one n) at (spans_more n) in
      ⊎_elim (λ e. rw e (omega arith)) (λ l. omega (arith, spans_le i n (le_of_suc-le-suc l))) (eq-or-lt_of_le h)

  -- there is room for it where there is room for all
  pub room_left : (i : ℕ) → i < s.count → spans_of (below i) + spans_of (here f s i) ≤ spans_of (blocks_of_parts (parts_of f s))
  room_left i h = omega (arith, spans_more i, spans_le (i + 1) s.count (omega arith))

  pub image_turn : (order i : ℕ) (out : List ℕ) (to : ℕ) → to ≡ 4 + spans_of (below i) →
      patch (patch out 4 (spelled_blocks order (below i))) to (spelled_blocks order (here f s i)) ≡ patch out 4 (spelled_blocks order (below (i + 1)))
  image_turn order i out to h =
      rw (blocks_joined (part_at f s) i, spelled_append)
      (patch_then out 4 (spelled_blocks order (below i)) to (spelled_blocks order (here f s i)) (omega (arith, length_spelled order (below i))))

  -- a section that is left changes nothing
  pub image_turn_left : (order i : ℕ) → part_at f s i ≡ [] → (out : List ℕ) → patch out 4 (spelled_blocks order (below i)) ≡ patch out 4 (spelled_blocks order (below (i + 1)))
  image_turn_left order i left out = rw (blocks_joined (part_at f s) i, left, append-nil)

  -- no part is longer than the file
  pub part_small : ReadOf f s → (i : ℕ) → i < s.count → (spans_of (here f s i) ≤ 16777231) × (length (part_at f s i) ≤ 1)
  unfolding span_of
  part_small ok i h =
      ⊎_elim
      (λ left. rw left (omega (arith, spans_nil), omega arith))
      (λ p. rw p.is (omega (arith, spans_one p.block, p.long, p.short, ok.short), omega arith))
      (part_cases f s i ok h)

  -- and none is empty; so each can be spelled
  part_fits : ReadOf f s → (i : ℕ) → i < s.count → Fit (here f s i) × (length (here f s i) ≤ 1)
  part_fits ok i h =
      ⊎_elim
      (λ left. rw left (tt, omega arith))
      (λ p. rw p.is ((omega (arith, p.long, p.real), omega (arith, p.long, p.short, ok.short), tt), omega arith))
      (part_cases f s i ok h)

  parts_fit : ReadOf f s → (n : ℕ) → n ≤ s.count → Fit (below n) × (length (below n) ≤ n)
  parts_fit ok zero h = rw (joined_none (part_at f s)) (tt, omega arith)
  parts_fit ok (suc n) h =
      let before = parts_fit ok n (omega arith) in
      let one = part_fits ok n (omega arith) in
      rw (← (add-one n), blocks_joined (part_at f s) n)
      (fit_append (below n) (here f s n) before.0 one.0, rw length-append (omega (arith, before.1, one.1)))

-- The whole file.

module _ (f : List ℕ) (s : Sections) (entry : ℕ) where
  pub length_is : image_length (program_of (source_of f s entry)) ≡ 8 + spans_of (blocks_of_parts (parts_of f s))
  unfolding image_length program_of blocks_of
  length_is = refl

  pub count_is : length (program_of (source_of f s entry)).blocks ≡ length (parts_of f s)
  unfolding program_of blocks_of
  count_is = length-map (parts_of f s) _

  -- entry point, blocks and end flag, written one after the other
  pub image_written : ReadOf f s → (order : ℕ) (xs : List ℕ) (end : ℕ) → end ≡ 4 + spans_of (blocks_of_parts (parts_of f s)) →
      patch (patch (patch xs 0 (numbers_in order (number_bytes entry))) 4 (spelled_blocks order (blocks_of_parts (parts_of f s)))) end (numbers_in order (number_bytes 0))
      ≡ patch xs 0 (written order (image_of (program_of (source_of f s entry))))
  unfolding spelled program_of blocks_of
  image_written ok order xs end h =
      let bs = blocks_of_parts (parts_of f s) in
      let first = numbers_in order (number_bytes entry) in
      let fit = parts_fit f s ok s.count (omega arith) in
      let l : length first ≡ 4 = length_numbers order (number_bytes entry) ∙ length-number entry in
      rw (written_spelled order (program_of (source_of f s entry)) fit.0 (omega (arith, fit.1, count_few ok)), flag_in order)
      (patch_then (patch xs 0 first) 4 (spelled_blocks order bs) end (number_bytes 0) (omega (arith, length_spelled order bs))
      ∙ patch_then xs 0 first 4 (spelled_blocks order bs ++ number_bytes 0) (omega arith))
