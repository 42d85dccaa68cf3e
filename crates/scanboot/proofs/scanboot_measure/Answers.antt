-- An empty row of patterns asks for nothing.
use Rattle.patterns.specs.Row.{patterns_in, options_of}
use Rattle.scanboot.proofs.scanboot_measure.Goals as goal

pub returns : goal.returns
unfolding patterns_in options_of
returns c = c.scanboot_measure_with.ensures
