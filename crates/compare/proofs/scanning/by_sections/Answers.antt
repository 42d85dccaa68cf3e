use native.Mathlib.Omega.{arith}
use Rattle.compare.proofs.AreaBlocks.{block_long}
use Rattle.compare.proofs.ScanLaws.{scan_begins, scan_ends, scan_fits, scan_goes, scan_stops}
use Rattle.compare.proofs.scanning.by_sections.Goals as goal

pub loop-i-init : goal.loop-i-init
loop-i-init c = scan_begins _ _ _ _ _ c.requires.2

pub overflow_add-matched : goal.overflow_add-matched
overflow_add-matched c =
    let fits = scan_fits _ _ _ _ _ c.requires.2 c.loop-i.invariant c.loop-i-test.true c.by_section-matched.ensures in
    omega (arith, block_long c.args.block.now)

pub returns-then-matched-size : goal.returns-then-matched-size
returns-then-matched-size c =
    scan_stops _ _ _ _ _ c.requires.2 c.loop-i.invariant c.loop-i-test.true c.by_section-matched.ensures (rw (block_long c.args.block.now) c.if-matched-size.true)

pub loop-i-preserved : goal.loop-i-preserved
loop-i-preserved c =
    scan_goes _ _ _ _ _ c.requires.2 c.loop-i.invariant c.loop-i-test.true c.by_section-matched.ensures (rw (block_long c.args.block.now) c.if-matched-size.false)

pub returns : goal.returns
returns c = scan_ends _ _ _ _ _ c.loop-i.invariant (omega arith)
