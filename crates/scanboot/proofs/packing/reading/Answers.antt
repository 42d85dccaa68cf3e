-- Each case is the definition's, and its sum stays below 2 ^ 64 since the block count is small.
use Rattle.scanboot.proofs.PackingLaws.{reading_refused, reading_image}
use Rattle.scanboot.proofs.packing.reading.Goals as goal

pub returns-in-Ok : goal.returns-in-Ok
returns-in-Ok c = rw (c.in-Ok.is, reading_image)

pub returns-in-Err : goal.returns-in-Err
returns-in-Err c = rw (c.in-Err.is, reading_refused) c.refusal.ensures
