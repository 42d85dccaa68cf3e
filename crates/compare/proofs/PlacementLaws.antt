-- The blocks of an image one by one: each is matched and gives its size, or is not and decides.
use Prim.Native.Nat.{ℕ, ◌+◌, ◌-◌, ◌^◌, ◌<◌, ◌≤◌}
use mathlib.Core.Path.{◌≡◌, refl, ap, sym, ◌∙◌}
use mathlib.Core.Bool.{true, false, ◌&&◌}
use mathlib.Core.List.{List, [], ◌∷◌}
use native.Mathlib.Omega.{arith}
use lib.ListN.{length, take, drop, drop_of_length-le}
use lib.Dec.{eqb}
use Rattle.std.specs.Prelude.{None, Some}
use Rattle.fields.specs.declared.Part.{Part}
use Rattle.fields.specs.Counting.{joined}
use Rattle.fields.specs.Program.{Block, blocks_of_parts}
use Rattle.coff.specs.declared.parts.Coff.{Coff}
use Rattle.coff.specs.Handed.{part_in, parts_in}
use Rattle.coff.specs.Parts.{TellsKept}
use Rattle.coff.proofs.PartLaws.{length_piece}
use Rattle.ranges.specs.declared.row.Cursor.{Cursor}
use Rattle.image.specs.Layout.{rounded_up}
use Rattle.image.specs.Order.{undone}
use Rattle.image.specs.declared.blocks.Image.{Image}
use Rattle.image.specs.Handed.{undone_in, blocks_of_image}
use Rattle.image.specs.Walking.{block_at, Here, First, Tells, TellsIn, Accepted}
use Rattle.image.specs.declared.walking.BlockHeader.{BlockHeader}
use Rattle.image.proofs.AreaAtLaws.{area_at_lem}
use Rattle.image.proofs.WalkingLaws.{first_here}
use Rattle.image.proofs.PartLaws.{blocks_from}
use Rattle.loader.specs.Placing.{sizes_of}
use Rattle.loader.proofs.PlacingLaws.{sizes_none, sizes_one, sizes_turn}
use Rattle.compare.specs.Same.{same_placement}
use Rattle.compare.specs.Matching.{block_in, is_matched, are_matched}
use Rattle.compare.specs.Scanning.{Found}
use Rattle.compare.proofs.MatchLaws.{same_by_count}
use Rattle.compare.proofs.FileLaws.{file_spread}
use Rattle.compare.proofs.SpreadLaws.{image_spread}

-- The bytes of all parts, with one section more: nothing where it is left, otherwise its size, which the file bounds.
module _ (file : Coff) (i : ℕ) where
  abbrev sizes : ℕ → ℕ
  sizes n = sizes_of (blocks_of_parts (joined (part_in file) n))

  pub left_adds : part_in file i ≡ [] → sizes (i + 1) ≡ sizes i
  left_adds left = let none : sizes_of (blocks_of_parts (part_in file i)) ≡ 0 = rw left sizes_none in omega (arith, sizes_turn (part_in file) i)

  pub kept_adds : (p : Part) → TellsKept file.bytes.now file.sections i p.size p.load.0 p.run.0 p.raw.0 → (sizes (i + 1) ≡ sizes i + p.size) × (p.size ≤ 16777216)
  kept_adds p t =
      let own : sizes_of (blocks_of_parts (part_in file i)) ≡ p.size = rw t.part (sizes_one _ ∙ length_piece file.bytes.now p.raw.0 p.size t.within) in
      (omega (arith, sizes_turn (part_in file) i), omega (arith, t.within, file.read.short))

-- The block at a cursor, whose data area ends where the next one begins.
module _ (order : ℕ) (s : List ℕ) (c : Cursor) (b : BlockHeader) (t : TellsIn order s c b) where
  abbrev lent : List ℕ
  lent = take (b.next.at - b.part.raw.0) (drop b.part.raw.0 s)

  cut : b.next.at - b.part.raw.0 ≡ rounded_up b.part.size
  cut = omega (arith, t.ends)

  pub block_read : block_in order lent b.part ≡ block_at (undone order s) c.number
  block_read = rw (cut, ← (area_at_lem order s b.part.raw.0 b.part.size), ← t.area, t.tells.load, t.tells.run)

-- A walk over the blocks of an image, against sections.

none_unmatched : (bs : List Block) → are_matched bs [] ≡ true
unfolding are_matched
none_unmatched bs = refl

one_more : (bs : List Block) (c : Block) (cs : List Block) → are_matched bs (c ∷ cs) ≡ (is_matched bs c && are_matched bs cs)
unfolding are_matched
one_more bs c cs = refl

sizes_cons : (b : Block) (bs : List Block) → sizes_of (b ∷ bs) ≡ length b.bytes + sizes_of bs
unfolding sizes_of
sizes_cons b bs = refl

-- all blocks before the cursor are matched, and they have so many bytes; some section made the last match
pub record Walked (file : Coff) (image : Image) (c : Cursor) (hint bytes : ℕ) : Type 0 where
  pub here : Here (undone_in image) c
  pub low : c.number ≤ image.blocks
  pub hinted : hint ≤ file.sections.count
  pub matched : are_matched (blocks_of_parts (parts_in file)) (blocks_of_image image) ≡ are_matched (blocks_of_parts (parts_in file)) (drop c.number (blocks_of_image image))
  pub sized : sizes_of (blocks_of_image image) ≡ bytes + sizes_of (drop c.number (blocks_of_image image))
  pub short : bytes ≤ c.at

module _ (file : Coff) (image : Image) (a : Accepted (undone_in image) image.entry image.blocks) where
  pub walk_begins : (c : Cursor) → First c → Walked file image c 0 0
  walk_begins c first =
      record {
        here = first_here (undone_in image) c first;
        low = omega (arith, first.number);
        hinted = omega arith;
        matched = rw first.number;
        sized = rw first.number (omega arith);
        short = omega arith;
      }

  decided_by : same_placement (blocks_of_parts (parts_in file)) (blocks_of_image image) ≡ (are_matched (blocks_of_parts (parts_in file)) (blocks_of_image image) && eqb (sizes_of (blocks_of_parts (parts_in file))) (sizes_of (blocks_of_image image)))
  decided_by = same_by_count (2 ^ 32) (blocks_of_parts (parts_in file)) (blocks_of_image image) (file_spread file) (image_spread (undone_in image) a)

  module _ {c : Cursor} {hint bytes : ℕ} (w : Walked file image c hint bytes) where
    pub walk_ends : image.blocks ≤ c.number → {n : ℕ} → n ≡ sizes_of (blocks_of_parts (parts_in file)) → eqb n bytes ≡ same_placement (blocks_of_parts (parts_in file)) (blocks_of_image image)
    walk_ends h {n} e =
        let none : drop c.number (blocks_of_image image) ≡ [] = drop_of_length-le (blocks_of_image image) {i = c.number} (omega (arith, a.count_is)) in
        let all : are_matched (blocks_of_parts (parts_in file)) (blocks_of_image image) ≡ true = w.matched ∙ rw none (none_unmatched (blocks_of_parts (parts_in file))) in
        let size : sizes_of (blocks_of_image image) ≡ bytes = omega (arith, w.sized, ap sizes_of none, sizes_none) in
        rw e (sym (decided_by ∙ rw (all, size)))

    -- one block more
    module _ (h : c.number < image.blocks) {b : BlockHeader} (t : Tells (undone_in image) c b) where
      rest : drop c.number (blocks_of_image image) ≡ block_at (undone_in image) c.number ∷ drop (c.number + 1) (blocks_of_image image)
      rest = blocks_from (undone_in image) c.number (omega (arith, a.count_is))

      so_far : are_matched (blocks_of_parts (parts_in file)) (blocks_of_image image) ≡ (is_matched (blocks_of_parts (parts_in file)) (block_at (undone_in image) c.number) && are_matched (blocks_of_parts (parts_in file)) (drop (c.number + 1) (blocks_of_image image)))
      so_far = w.matched ∙ rw rest (one_more (blocks_of_parts (parts_in file)) (block_at (undone_in image) c.number) (drop (c.number + 1) (blocks_of_image image)))

      pub walk_fails : Found file (block_at (undone_in image) c.number) None → false ≡ same_placement (blocks_of_parts (parts_in file)) (blocks_of_image image)
      walk_fails found = sym (decided_by ∙ rw (so_far, found))

      pub walk_goes : {section : ℕ} → Found file (block_at (undone_in image) c.number) (Some section) → Walked file image b.next section (bytes + b.part.size)
      walk_goes found =
          let sizes = sizes_cons (block_at (undone_in image) c.number) (drop (c.number + 1) (blocks_of_image image)) in
          record {
            here = t.next;
            low = omega (arith, t.one_on);
            hinted = omega (arith, found.0);
            matched = rw t.one_on (so_far ∙ rw found.1);
            sized = rw t.one_on (omega (arith, w.sized, ap sizes_of rest, t.size));
            short = omega (arith, w.short, t.behind, t.raw);
          }
