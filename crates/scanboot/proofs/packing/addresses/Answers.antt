-- Each case is the definition's; two addresses of 32 bits always fit.
use Rattle.scanboot.proofs.PackingLaws.{addresses_refused, addresses_found}
use Rattle.scanboot.proofs.packing.addresses.Goals as goal

pub returns-in-Ok : goal.returns-in-Ok
returns-in-Ok c = rw (c.in-Ok.is, addresses_found)

pub returns-in-Err : goal.returns-in-Err
returns-in-Err c = rw (c.in-Err.is, addresses_refused)
