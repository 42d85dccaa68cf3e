-- Entry point, blocks and end flag are written one behind the other, and together they are the image.
use Prim.Native.Nat.{◌+◌}
use mathlib.Core.Path.{◌≡◌}
use native.Mathlib.Omega.{arith}
use Rattle.fields.specs.Program.{blocks_of_parts, program_of}
use Rattle.coff.specs.Handed.{parts_in, source_in}
use Rattle.image.specs.Layout.{spans_of, image_length}
use Rattle.image.proofs.ConvertLaws.{length_is, image_written}
use Rattle.image.proofs.converting.put_image.Goals.{Start}
use Rattle.image.proofs.converting.put_image.Goals as goal

-- the length that there is room for
long : (start : Start) → let file = start.args.file.now in image_length (program_of (source_in file)) ≡ 8 + spans_of (blocks_of_parts (parts_in file))
long start = let file = start.args.file.now in length_is file.bytes.now file.sections file.entry

pub put_number-requires : goal.put_number-requires
put_number-requires c = omega (arith, long (goal.at.put_number-requires c).Start)

pub put_parts-end-requires : goal.put_parts-end-requires
put_parts-end-requires c = omega (arith, long (goal.at.put_parts-end-requires c).Start)

pub put_number-requires-2 : goal.put_number-requires-2
put_number-requires-2 c = omega (arith, long (goal.at.put_number-requires-2 c).Start, c.put_parts-end.ensures.answers)

pub returns : goal.returns
returns c =
    let file = c.args.file.now in
    rw (c.put_number-2.ensures, c.put_parts-end.ensures.leaves, c.put_number.ensures) (image_written file.bytes.now file.sections file.entry file.read c.args.order c.args.out.now c.put_parts-end.result c.put_parts-end.ensures.answers)
