-- Each case is the definition's.
use Rattle.scanboot.proofs.PackingLaws.{verdict_refused, verdict_same}
use Rattle.scanboot.proofs.packing.verdict.Goals as goal

pub returns-in-Ok : goal.returns-in-Ok
returns-in-Ok c = rw (c.in-Ok.is, verdict_same)

pub returns-in-Err : goal.returns-in-Err
returns-in-Err c = rw (c.in-Err.is, verdict_refused) c.refusal.ensures
