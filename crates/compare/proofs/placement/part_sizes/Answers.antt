use mathlib.Core.Path.{sym}
use native.Mathlib.Omega.{arith}
use Rattle.loader.proofs.PlacingLaws.{none_counted}
use Rattle.compare.proofs.PlacementLaws.{left_adds, kept_adds}
use Rattle.compare.proofs.placement.part_sizes.Goals.{in-Some, in_default}
use Rattle.compare.proofs.placement.part_sizes.Goals as goal

pub loop-i-init : goal.loop-i-init
loop-i-init c = (sym (none_counted _), omega arith)

pub loop-i-preserved : goal.loop-i-preserved
loop-i-preserved c =
    let file = c.args.file.now in
    let i = c.loop-i.i in
    elim c.match-part_at.branch [
      | in-Some w ↦ let more = kept_adds file i w.in-Some.part w.in-Some.ensures in (omega arith, omega arith)
      | in_default w ↦ let same = left_adds file i w.in_default.ensures in (omega arith, omega arith)
    ]
