-- The rules of the first i sections are silent, and what is noted is of these.
use Rattle.fields.specs.Counting.{joined}
use Rattle.fields.specs.Rules.{Silent}
use Rattle.coff.specs.Steps.{NotedTo}
use Rattle.coff.specs.Refusals.{rules_of}
use Rattle.coff.proofs.ranges.Noted.note_all.Given as goal

abbrev pub invariant-loop-i : goal.invariant-loop-i
invariant-loop-i g l =
    record {
      silent : Silent (joined (rules_of (g.C.Chooser.options l.chooser) l.headers.file.now) l.i);
      noted : NotedTo (g.C.Chooser.options l.chooser) l.headers.file.now l.i (record { kept = l.self.kept; rise = l.rise }) l.top;
    }
