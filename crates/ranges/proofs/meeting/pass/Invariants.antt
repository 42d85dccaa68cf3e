-- One range more is passed and covered in each turn, where it is known to meet no earlier one or lies clear of the cover.
use Prim.Native.Nat.{◌-◌}
use Rattle.ranges.specs.Steps.{Searched}
use Rattle.ranges.proofs.meeting.pass.Given as goal

abbrev pub invariant-loop-later : goal.invariant-loop-later
invariant-loop-later l = Searched l.all l.cover.firsts l.cover.lasts l.later

abbrev pub decreases-loop-later : goal.decreases-loop-later
decreases-loop-later l = l.all.count - l.later.number
