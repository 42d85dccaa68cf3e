-- Three numbers and the data area are written one behind the other, and together they are the block.
use native.Mathlib.Omega.{arith}
use Rattle.image.proofs.ConvertLaws.{block_written}
use Rattle.image.proofs.writing.put_block.Goals as goal

pub returns : goal.returns
returns c =
    let a = c.args in
    record {
      answers = omega arith;
      leaves = rw (c.put_area.ensures, c.put_number-3.ensures, c.put_number-2.ensures, c.put_number.ensures) (block_written a.order a.out.now a.at a.load.0 a.run.0 a.raw.now);
    }
