-- Each byte takes its character, and the star behind them whatever is left.
use mathlib.Core.Path.{◌∙◌}
use mathlib.Core.Bool.{◌||◌}
use lib.Dec.{eqb}
use lib.ListN.{length, take}
use borrow.Author.Tests.{tests}
use Rattle.std.proofs.Common.{rules}
use Rattle.std.proofs.lemmas.Iterator.{YieldsList-from_slice, YieldsList-from_zip}
use Rattle.std.proofs.lemmas.Iterator.Search.{all_from_yields_List}
use Rattle.patterns.specs.Taking.{question}
use Rattle.patterns.proofs.PieceLaws.{piece_taken}
use Rattle.patterns.proofs.pieces.fits.Goals as goal

pub returns : goal.returns
returns c =
    let piece = c.args.piece.now in
    let name = c.args.name.now in
    all_from_yields_List (λ p. eqb p.0 question || eqb p.0 p.1) c.all.new.self _ _ c.all.ensures.ran (YieldsList-from_zip (YieldsList-from_slice piece (cc)) (YieldsList-from_slice (take (length piece) name) (cc))) (λ x b q k. search (rules, tests)) ∙ piece_taken piece name c.requires.0 c.requires.1
