-- None of the bytes that are passed is a star, and the next is one.
use mathlib.Core.Path.{◌≡◌, ◌∙◌}
use mathlib.Core.Bool.{not}
use lib.Dec.{eqb}
use borrow.Author.Tests.{tests, eqb-true}
use Rattle.std.specs.List.{prefix_len}
use Rattle.std.proofs.Common.{rules}
use Rattle.std.proofs.lemmas.Iterator.{YieldsList-from_slice}
use Rattle.std.proofs.lemmas.Iterator.Search.{YieldsList-from_take_while}
use Rattle.std.proofs.lemmas.Iterator.Consumers.{count_from_yields_List}
use Rattle.std.proofs.lemmas.List.Folds.{length-prefix_len}
use Rattle.std.proofs.lemmas.List.Sums.{prefix_len-le-length, passes_at_first}
use Rattle.patterns.specs.Taking.{star}
use Rattle.patterns.proofs.StarsLaws.{none_before}
use Rattle.patterns.proofs.stars.plain_in_front.Goals as goal

pub returns : goal.returns
returns c =
    let p = c.args.p.now in
    let e : c.count.result ≡ prefix_len (λ b. not (eqb b star)) p = count_from_yields_List c.take_while.result _ c.count.ensures.ran (YieldsList-from_take_while _ (λ b. not (eqb b star)) (YieldsList-from_slice p (cc)) c.take_while.ensures.closure c.take_while.ensures.done (λ x b q k. search (rules, tests))) ∙ length-prefix_len _ p in
    rw e (prefix_len-le-length _ p, none_before p, λ h. eqb-true _ star (passes_at_first (λ b. eqb b star) p 0 h))
