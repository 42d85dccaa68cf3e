use mathlib.Core.Path.{◌≡◌, sym, ◌∙◌}
use native.Mathlib.Omega.{arith}
use lib.ListN.{length}
use Rattle.fields.specs.Program.{blocks_of}
use Rattle.image.specs.Handed.{undone_in, blocks_of_image}
use Rattle.image.proofs.WalkingLaws.{first_here, framed_few}
use Rattle.image.proofs.PartLaws.{image_part, image_parts}
use Rattle.loader.proofs.ImageParts.{block_inside, block_counts, block_places}
use Rattle.loader.proofs.PlacingLaws.{none_counted, none_placed, fits_at, sizes_turn, placed_turn}
use Rattle.loader.proofs.from_image.place_blocks.Goals as goal

pub loop-c-init : goal.loop-c-init
loop-c-init c =
    let f = c.first-c.ensures in
    record {
      here = first_here _ _ f;
      within = omega arith;
      figure = rw f.number (sym (none_counted _));
      small = omega arith;
      places = rw f.number (sym (none_placed _ _ _));
    }

pub place_area-requires : goal.place_area-requires
place_area-requires c =
    let image = c.args.image.now in
    let s = undone_in image in
    let read = c.block_at-b.ensures in
    let here = fits_at (image_part s) c.loop-c.c.number _ _ _ (omega (arith, image.counted)) (rw (image_parts s) at c.requires) in
    let inside = block_inside read.tells _ _ here in
    (inside.0, omega (arith, inside.1), read.whole)

pub overflow_add-bytes : goal.overflow_add-bytes
overflow_add-bytes c =
    let image = c.args.image.now in
    omega (arith, c.block_at-b.ensures.tells, image.framed.short, framed_few _ image.framed, image.counted, c.loop-c.invariant)

pub loop-c-preserved : goal.loop-c-preserved
loop-c-preserved c =
    let l = c.loop-c in
    let image = c.args.image.now in
    let g = image_part (undone_in image) in
    let read = c.block_at-b.ensures in
    let told = read.tells in
    record {
      here = told.next;
      within = omega (arith, told.one_on);
      figure = rw (told.one_on, block_counts told, l.invariant.figure) (sizes_turn g l.c.number);
      small = omega (arith, told, image.framed.short, l.invariant.small);
      places =
          rw told.one_on
          (c.place_area.ensures
          ∙ rw (block_places told c.args.base l.window read.area, l.invariant.places) (placed_turn g l.c.number c.args.base c.args.window.now));
    }

pub returns : goal.returns
unfolding blocks_of
returns c =
    let l = c.loop-c in
    let image = c.args.image.now in
    let e : l.c.number ≡ length (blocks_of_image image) = omega (arith, image.counted) in
    rw (image_parts (undone_in image)) (rw e at l.invariant.figure, rw e at l.invariant.places)
