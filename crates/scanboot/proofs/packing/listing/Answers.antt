-- Each case is the definition's, and its sum stays below 2 ^ 64 since the length is small.
use Rattle.scanboot.proofs.PackingLaws.{listing_refused, listing_listed}
use Rattle.scanboot.proofs.packing.listing.Goals as goal

pub returns-in-Ok : goal.returns-in-Ok
returns-in-Ok c = rw (c.in-Ok.is, listing_listed)

pub returns-in-Err : goal.returns-in-Err
returns-in-Err c = rw (c.in-Err.is, listing_refused) c.refusal.ensures
