-- One range more is held in each turn.
use Rattle.ranges.proofs.AcrossLaws.{Filled}
use Rattle.ranges.proofs.across.hold_few.Given as goal

abbrev pub invariant-loop-k : goal.invariant-loop-k
invariant-loop-k l = Filled l.all l.initial.c.number l.held.firsts l.held.lasts l.c l.k
