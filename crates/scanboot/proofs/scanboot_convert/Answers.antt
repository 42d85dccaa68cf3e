-- An empty row of patterns asks for nothing.
use Rattle.patterns.specs.Row.{patterns_in, options_of}
use Rattle.scanboot.proofs.scanboot_convert.Goals as goal

pub returns : goal.returns
unfolding patterns_in options_of
returns c =
    record {
      answers = c.scanboot_convert_with.ensures.answers;
      leaves = c.scanboot_convert_with.ensures.leaves;
    }
