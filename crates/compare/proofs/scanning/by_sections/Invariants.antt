-- The sections are asked one by one; a count never passes the size, so where it meets the size the later sections add nothing.
use Rattle.compare.specs.Stored.{block_of}
use Rattle.compare.proofs.ScanLaws.{Coming}
use Rattle.compare.proofs.scanning.by_sections.Given as goal

abbrev pub invariant-loop-i : goal.invariant-loop-i
invariant-loop-i l = Coming l.file l.from (block_of l.block) l.had l.matched l.i
