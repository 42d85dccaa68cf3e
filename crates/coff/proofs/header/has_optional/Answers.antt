-- Of a file that is long enough for a file header the byte decides.
use mathlib.Core.Path.{refl}
use Rattle.coff.proofs.AnswerLaws.{begins_by}
use Rattle.coff.proofs.header.has_optional.Goals as goal

pub returns : goal.returns
returns c s = begins_by c.args.f.now s _ refl
