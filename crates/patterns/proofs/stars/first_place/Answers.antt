-- With a star it is the first of all, and else the pattern's length before the end.
use mathlib.Core.Path.{◌≡◌, sym, ◌∙◌}
use mathlib.Core.Bool.{true, false}
use Rattle.patterns.specs.Stars.{has_star}
use Rattle.patterns.proofs.StarsLaws.{has_star_any, place_star, place_end}
use Rattle.patterns.proofs.stars.first_place.Goals as goal

pub returns-then-contains : goal.returns-then-contains
returns-then-contains c =
    let e : has_star c.args.p.now ≡ true = has_star_any _ ∙ sym c.contains.ensures.value ∙ c.if-contains.true in
    sym (place_star c.args.p.now c.args.n e)

pub returns-else-contains : goal.returns-else-contains
returns-else-contains c =
    let e : has_star c.args.p.now ≡ false = has_star_any _ ∙ sym c.contains.ensures.value ∙ c.if-contains.false in
    c.saturating_sub.ensures ∙ sym (place_end c.args.p.now c.args.n e)
