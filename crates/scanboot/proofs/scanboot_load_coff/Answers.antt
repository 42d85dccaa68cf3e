-- An empty row of patterns asks for nothing.
use Rattle.patterns.specs.Row.{patterns_in, options_of}
use Rattle.scanboot.proofs.scanboot_load_coff.Goals as goal

pub returns : goal.returns
unfolding patterns_in options_of
returns c =
    record {
      answers = c.scanboot_load_coff_with.ensures.answers;
      leaves = c.scanboot_load_coff_with.ensures.leaves;
    }
