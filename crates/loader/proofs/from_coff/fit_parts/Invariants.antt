-- As long as each part fits, all before it do; the first that does not decides.
use Rattle.fields.specs.Counting.{joined}
use Rattle.fields.specs.Rules.{Silent}
use Rattle.coff.specs.Handed.{part_in}
use Rattle.loader.specs.Loading.{outside_rules}
use Rattle.loader.proofs.from_coff.fit_parts.Given as goal

abbrev pub invariant-loop-i : goal.invariant-loop-i
invariant-loop-i l = Silent (outside_rules l.window.base l.window.room (joined (part_in l.file) l.i))
