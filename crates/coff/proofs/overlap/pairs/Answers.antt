-- Sections that rise meet nowhere; any others are compared.
use Rattle.coff.proofs.JudgingLaws.{passes}
use Rattle.coff.proofs.overlap.pairs.Goals as goal

pub returns-then-rise : goal.returns-then-rise
returns-then-rise c = passes _ (c.requires c.if-rise.true)
