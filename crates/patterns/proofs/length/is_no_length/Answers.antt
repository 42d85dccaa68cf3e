-- The two tests are those of the definition.
use Rattle.std.proofs.Common.{rules}
use Rattle.fields.specs.Options.{is_no_length}
use Rattle.patterns.proofs.length.is_no_length.Goals as goal

pub returns : goal.returns
unfolding is_no_length
returns c = search rules
