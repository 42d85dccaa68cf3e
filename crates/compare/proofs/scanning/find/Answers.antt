-- What the sections from the hint on and those before it match is what all match.
use native.Mathlib.Omega.{arith}
use Rattle.compare.proofs.AreaBlocks.{block_long}
use Rattle.compare.proofs.ScanLaws.{room_later, found_later, room_earlier, found_earlier}
use Rattle.compare.proofs.scanning.find.Goals as goal

pub by_sections-requires : goal.by_sections-requires
by_sections-requires c = (
  c.requires.0,
  omega arith,
  room_later c.args.file.now _ c.requires.0 (omega (arith, block_long c.args.block.now)),
)

pub returns-in-Break : goal.returns-in-Break
returns-in-Break c = found_later c.args.file.now _ c.requires.0 c.in-Break.ensures

pub by_sections-requires-2 : goal.by_sections-requires-2
by_sections-requires-2 c = (
  omega arith,
  c.requires.0,
  room_earlier c.args.file.now _ c.requires.0 c.in-Continue.ensures,
)

pub returns : goal.returns
returns c =
    rw c.break_value.ensures.value (found_earlier c.args.file.now _ c.requires.0 c.in-Continue.ensures _ c.by_sections-2.ensures)
