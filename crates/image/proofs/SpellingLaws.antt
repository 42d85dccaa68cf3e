-- What is spelled block by block is as long as the image in order 0, and is that image written in the order.
use Prim.Native.Nat.{ℕ, zero, suc, ◌^◌, ◌<◌, ◌≤◌}
use mathlib.Core.Path.{◌≡◌, refl, ap, sym, ◌∙◌}
use mathlib.Core.Bool.{Bool, true, false}
use mathlib.Core.List.{List, [], ◌∷◌, ◌++◌, append-nil, append_assoc}
use native.Mathlib.Omega.{arith}
use lib.ListN.{length, take, drop, length-append, take-append-drop}
use lib.Seq.{take_at, drop_at}
use Rattle.fields.specs.Number.{number, little, field_at, u32_at, le32}
use Rattle.fields.specs.Turning.{turned, turned_if}
use Rattle.fields.specs.Program.{Block, Program}
use Rattle.image.specs.Layout.{image_number, number_bytes, rounded_up, span_of, area_of, image_of_block, image_of_blocks, image_of, spans_of}
use Rattle.image.specs.Order.{turns_numbers, numbers_in, area_in, number_in, rewritten, written}
use Rattle.image.specs.Spelling.{spelled_block, spelled_blocks, spelled}
use Rattle.image.proofs.NumberLaws.{length-number, number_back}
use Rattle.image.proofs.OrderLaws.{length_numbers, length_area_in, numbers_append, numbers_plain, rewritten_end, rewritten_block}
use Rattle.image.proofs.AreaLaws.{length_area}
use Rattle.image.proofs.LayoutLaws.{length_block}

-- One block: its three fields, and its data area.
module _ (b : Block) where
  fields_are : take 12 (image_of_block b) ≡ number_bytes (length b.bytes) ++ (number_bytes b.load ++ number_bytes b.run)
  unfolding image_of_block number_bytes le32 little
  fields_are = refl

  area_is : drop 12 (image_of_block b) ≡ area_of b.bytes
  unfolding image_of_block number_bytes le32 little
  area_is = refl

module _ (order : ℕ) (b : Block) where
  pub length_spelled_block : length (spelled_block order b) ≡ length (image_of_block b)
  unfolding spelled_block
  length_spelled_block =
      let e = ap length (take-append-drop 12 (image_of_block b)) in
      rw (length-append, length_numbers, length_area_in) (rw length-append at e)

  -- the numbers one by one
  pub spelled_parts :
      spelled_block order b
      ≡ numbers_in order (number_bytes (length b.bytes)) ++ (numbers_in order (number_bytes b.load) ++ (numbers_in order (number_bytes b.run) ++ area_in order (area_of b.bytes)))
  unfolding spelled_block
  spelled_parts =
      let size = number_bytes (length b.bytes) in
      let load = number_bytes b.load in
      let run = number_bytes b.run in
      rw (fields_are b, area_is b, numbers_append order size 1 (load ++ run) (length-number (length b.bytes)), numbers_append order load 1 run (length-number b.load))
      (simp append_assoc)

-- Blocks in a row.
module _ (order : ℕ) where
  pub spelled_nil : spelled_blocks order [] ≡ []
  unfolding spelled_blocks
  spelled_nil = refl

  pub spelled_one : (b : Block) → spelled_blocks order (b ∷ []) ≡ spelled_block order b
  unfolding spelled_blocks
  spelled_one b = append-nil (spelled_block order b)

  pub spelled_append : (bs cs : List Block) → spelled_blocks order (bs ++ cs) ≡ spelled_blocks order bs ++ spelled_blocks order cs
  unfolding spelled_blocks
  spelled_append [] cs = refl
  spelled_append (b ∷ bs) cs = rw (spelled_append bs cs) (sym (append_assoc (spelled_block order b) (spelled_blocks order bs) (spelled_blocks order cs)))

  pub length_spelled : (bs : List Block) → length (spelled_blocks order bs) ≡ spans_of bs
  unfolding spelled_blocks spans_of
  length_spelled [] = refl
  length_spelled (b ∷ bs) = rw (length-append, length_spelled_block, length_block, length_spelled bs)

-- Where a block that is not empty, and whose size fits its field, stands in front, it is rewritten as it is spelled.
module _ (order : ℕ) (b : Block) (real : 0 < length b.bytes) (small : length b.bytes < 2 ^ 32) (more : List ℕ) where
  abbrev here : List ℕ
  here = image_of_block b ++ more

  abbrev size : ℕ
  size = length b.bytes

  size_here_lem : number_in 0 here 0 ≡ size
  unfolding number_in image_of_block image_number u32_at
  size_here_lem = rw (numbers_plain, append_assoc) (number_back size [] _ 0 refl small)

  front : take 12 here ≡ take 12 (image_of_block b)
  unfolding image_of_block number_bytes le32 little
  front = refl

  behind_fields : drop 12 here ≡ area_of b.bytes ++ more
  unfolding image_of_block number_bytes le32 little
  behind_fields = refl

  rewritten_spelled : (turns : ℕ) → rewritten 0 order (suc turns) here ≡ spelled_block order b ++ rewritten 0 order turns more
  unfolding spelled_block
  rewritten_spelled turns =
      let area : take (rounded_up size) (drop 12 here) ≡ drop 12 (image_of_block b) = rw (behind_fields, area_is b) (take_at (area_of b.bytes) more (rounded_up size) (length_area b.bytes)) in
      let behind : drop (span_of size) here ≡ more = drop_at (image_of_block b) more (span_of size) (length_block b) in
      rewritten_block 0 order turns here (rw size_here_lem real)
      ∙ rw (size_here_lem, front, area, behind) (sym (append_assoc (numbers_in order (take 12 (image_of_block b))) (area_in order (drop 12 (image_of_block b))) (rewritten 0 order turns more)))

-- each block is not empty, and its size fits its field
abbrev pub Fit : List Block → Type 0
Fit [] = Unit {0}
Fit (b ∷ bs) = (0 < length b.bytes) × (length b.bytes < 2 ^ 32) × Fit bs

pub fit_append : (bs cs : List Block) → Fit bs → Fit cs → Fit (bs ++ cs)
fit_append [] cs h k = k
fit_append (b ∷ bs) cs h k = (h.0, h.1, fit_append bs cs h.2 k)

-- The whole image.
module _ (order : ℕ) where
  -- the end flag is the same in every order
  pub flag_in : numbers_in order (number_bytes 0) ≡ number_bytes 0
  unfolding numbers_in turned_if turned number_bytes le32 little
  flag_in = go (turns_numbers order)
    where
      go : (asked : Bool) → turned_if asked (number_bytes 0) ≡ number_bytes 0
      go true = refl
      go false = refl

  flag_read : number_in 0 (number_bytes 0) 0 ≡ 0
  unfolding number_in number_bytes field_at le32 little number
  flag_read = rw numbers_plain

  blocks_rewritten : (bs : List Block) → Fit bs → (turns : ℕ) → length bs ≤ turns → rewritten 0 order (suc turns) (image_of_blocks bs ++ number_bytes 0) ≡ spelled_blocks order bs ++ number_bytes 0
  unfolding image_of_blocks spelled_blocks
  blocks_rewritten [] fit turns h = rewritten_end 0 order turns (number_bytes 0) flag_read
  blocks_rewritten (b ∷ bs) fit zero h = absurd (omega arith)
  blocks_rewritten (b ∷ bs) fit (suc turns) h =
      let rest = image_of_blocks bs ++ number_bytes 0 in
      rw (append_assoc (image_of_block b) (image_of_blocks bs) (number_bytes 0), rewritten_spelled order b fit.0 fit.1 rest (suc turns), blocks_rewritten bs fit.2 turns (omega arith))
      (sym (append_assoc (spelled_block order b) (spelled_blocks order bs) (number_bytes 0)))

  pub written_spelled : (p : Program) → Fit p.blocks → length p.blocks ≤ 4096 → written order (image_of p) ≡ spelled order p
  unfolding written image_of spelled
  written_spelled p fit few =
      let rest = image_of_blocks p.blocks ++ number_bytes 0 in
      let entry : take 4 (number_bytes p.entry ++ rest) ≡ number_bytes p.entry = take_at (number_bytes p.entry) rest 4 (length-number p.entry) in
      let behind : drop 4 (number_bytes p.entry ++ rest) ≡ rest = drop_at (number_bytes p.entry) rest 4 (length-number p.entry) in
      rw (entry, behind, blocks_rewritten p.blocks fit 4096 few)
