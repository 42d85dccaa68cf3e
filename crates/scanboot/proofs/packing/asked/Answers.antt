-- Each case is the definition's, and its sum stays below 2 ^ 64 since size and offset are small.
use Rattle.scanboot.proofs.PackingLaws.{asked_refused, asked_found}
use Rattle.scanboot.proofs.packing.asked.Goals as goal

pub returns-in-Ok : goal.returns-in-Ok
returns-in-Ok c = rw (c.in-Ok.is, asked_found)

pub returns-in-Err : goal.returns-in-Err
returns-in-Err c = rw (c.in-Err.is, asked_refused) c.refusal.ensures
