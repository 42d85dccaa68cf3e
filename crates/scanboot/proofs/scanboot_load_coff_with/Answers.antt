-- The answer is packed, and small enough for that by the rules of the file; the window is as the loader left it.
use lib.ListN.{length}
use Rattle.patterns.specs.Row.{options_of}
use Rattle.scanboot.proofs.AnswerLaws.{load_coff_small}
use Rattle.scanboot.proofs.scanboot_load_coff_with.Goals as goal

pub loading-requires : goal.loading-requires
loading-requires c =
    let a = c.args in
    rw c.load_coff.ensures.answers (load_coff_small (options_of a.patterns.now) a.file.now a.base (length a.window.now))
