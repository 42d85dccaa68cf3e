-- Each case is the definition's, and its sum stays below 2 ^ 64 since the number placed is small.
use Rattle.scanboot.proofs.PackingLaws.{loading_refused, loading_placed}
use Rattle.scanboot.proofs.packing.loading.Goals as goal

pub returns-in-Ok : goal.returns-in-Ok
returns-in-Ok c = rw (c.in-Ok.is, loading_placed)

pub returns-in-Err : goal.returns-in-Err
returns-in-Err c = rw (c.in-Err.is, loading_refused) c.refusal.ensures
