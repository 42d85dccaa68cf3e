use mathlib.Core.Path.{◌≡◌, sym}
use native.Mathlib.Omega.{arith}
use lib.ListN.{length}
use Rattle.fields.proofs.RuleLaws.{silent_done}
use Rattle.image.specs.Handed.{undone_in, blocks_of_image}
use Rattle.image.proofs.WalkingLaws.{first_here}
use Rattle.image.proofs.PartLaws.{image_part, image_parts}
use Rattle.loader.proofs.ImageParts.{block_fits, block_fails}
use Rattle.loader.proofs.PlacingLaws.{none_asked, first_fails, fits_turn}
use Rattle.loader.proofs.from_image.fit_blocks.Goals as goal

pub loop-c-init : goal.loop-c-init
loop-c-init c =
    let f = c.first-c.ensures in
    record { here = first_here _ _ f; within = omega arith; fit = rw f.number (none_asked _ _ _) }

pub returns-then-not-holds : goal.returns-then-not-holds
returns-then-not-holds c =
    let l = c.loop-c in
    let image = c.args.image.now in
    let s = undone_in image in
    let fails = block_fails c.block_at-b.ensures.tells _ _ c.holds.ensures c.if-not-holds.true in
    rw (c.at.ensures, image_parts s) (first_fails (image_part s) _ _ _ l.c.number (omega (arith, image.counted)) l.invariant.fit fails)

pub loop-c-preserved : goal.loop-c-preserved
loop-c-preserved c =
    let l = c.loop-c in
    let told = c.block_at-b.ensures.tells in
    let more = fits_turn (image_part (undone_in c.args.image.now)) l.c.number _ _ l.invariant.fit (block_fits told _ _ c.holds.ensures c.if-not-holds.false) in
    record { here = told.next; within = omega (arith, told.one_on); fit = rw told.one_on more }

pub returns : goal.returns
returns c =
    let l = c.loop-c in
    let image = c.args.image.now in
    let e : l.c.number ≡ length (blocks_of_image image) = omega (arith, image.counted) in
    rw (image_parts (undone_in image)) (sym (silent_done _ tt (rw e at l.invariant.fit)))
