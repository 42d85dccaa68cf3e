-- The library's test is the definition, by another name.
use mathlib.Core.Path.{◌∙◌}
use Rattle.fields.proofs.EqualLaws.{pointwise_same}
use Rattle.fields.proofs.buffer.same.Goals as goal

pub returns : goal.returns
returns c = c.eq.ensures ∙ pointwise_same c.args.x.now c.args.y.now
