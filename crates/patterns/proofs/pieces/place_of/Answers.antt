-- The first place at which the piece fits is the first at which it stands; where it fits at none it stands at none.
use mathlib.Core.Path.{◌≡◌}
use mathlib.Core.Bool.{true, false}
use mathlib.Core.List.{[], ◌∷◌, ◌++◌}
use native.Mathlib.Omega.{arith}
use lib.ListN.{drop}
use borrow.Author.Rules.{part_to_end}
use borrow.Author.Tests.{tests}
use Rattle.std.proofs.Common.{rules}
use Rattle.std.proofs.lemmas.Iterator.{first_from_Range}
use Rattle.patterns.specs.Taking.{star, takes}
use Rattle.patterns.proofs.PieceLaws.{piece_place}
use Rattle.patterns.proofs.pieces.place_of.Goals as goal

pub returns : goal.returns
returns c =
    let piece = c.args.piece.now in
    let name = c.args.name.now in
    piece_place piece name _ c.requires c.saturating_sub-places.ensures _ (first_from_Range _ _ _ c.find.result (λ at. takes (piece ++ (star ∷ [])) (drop at name) ≡ true) (λ at. takes (piece ++ (star ∷ [])) (drop at name) ≡ false) c.find.ensures.ran (λ x q k. grind (arith, tests, part_to_end)) (λ x q k. (search rules, grind (arith, tests, part_to_end))))
