-- Each case is the definition's, and its sum stays below 2 ^ 64 since length and kept count are small.
use Rattle.scanboot.proofs.PackingLaws.{conversion_refused, conversion_made}
use Rattle.scanboot.proofs.packing.conversion.Goals as goal

pub returns-in-Ok : goal.returns-in-Ok
returns-in-Ok c = rw (c.in-Ok.is, conversion_made)

pub returns-in-Err : goal.returns-in-Err
returns-in-Err c = rw (c.in-Err.is, conversion_refused) c.refusal.ensures
