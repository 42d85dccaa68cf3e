use Rattle.compare.proofs.PlacementLaws.{block_read, walk_begins, walk_ends, walk_fails, walk_goes}
use Rattle.compare.proofs.placement.is_same.Goals as goal

pub loop-c-init : goal.loop-c-init
loop-c-init c = walk_begins _ _ c.requires _ c.first-c.ensures

pub returns-in_default : goal.returns-in_default
returns-in_default c =
    walk_fails _ _ c.requires c.loop-c.invariant c.loop-c-test.true c.block_at-b.ensures.tells (rw (block_read _ _ _ _ c.block_at-b.ensures) at c.in_default.ensures)

pub loop-c-preserved : goal.loop-c-preserved
loop-c-preserved c =
    walk_goes _ _ c.requires c.loop-c.invariant c.loop-c-test.true c.block_at-b.ensures.tells (rw (block_read _ _ _ _ c.block_at-b.ensures) at c.in-Some.ensures)

pub returns : goal.returns
returns c = walk_ends _ _ c.requires c.loop-c.invariant c.loop-c-test.false c.part_sizes.ensures
