-- No text is longer than 16,384 bytes; for less room it is measured.
use native.Mathlib.Omega.{arith}
use borrow.Author.Tests.{le-ltb}
use lib.ListN.{length}
use Rattle.lines.specs.Handed.{text_in}
use Rattle.lines.proofs.TextLaws.{read_short}
use Rattle.lines.proofs.length.Measure.is_over.Goals as goal

pub returns-else-room-lt16384 : goal.returns-else-room-lt16384
returns-else-room-lt16384 c =
    let file = c.args.self.now.file.now in
    rw (le-ltb c.args.room 16384 (omega arith), le-ltb c.args.room (length (text_in file)) (omega (arith, read_short _ _ file.read file.entry)))
