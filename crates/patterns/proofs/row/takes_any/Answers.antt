-- Each pattern of the row is asked in turn.
use mathlib.Core.Path.{refl, sym, ◌∙◌}
use lib.ListN.{drop}
use borrow.Author.Tests.{tests}
use Rattle.std.proofs.Common.{rules}
use Rattle.std.proofs.lemmas.Iterator.Consumers.{YieldsList-from_first}
use Rattle.std.proofs.lemmas.Iterator.Search.{any_from_yields_List}
use Rattle.patterns.specs.Taking.{takes}
use Rattle.patterns.specs.Row.{patterns_in}
use Rattle.patterns.proofs.RowLaws.{any_taken}
use Rattle.patterns.proofs.row.takes_any.Goals as goal

pub returns : goal.returns
returns c =
    any_from_yields_List (λ p. takes p c.args.name.now) c.any.new.self _ _ c.any.ensures.ran (YieldsList-from_first (λ p. p.now) (λ s. patterns_in (drop s.at s.row.now)) _ refl) (λ x b q k. search (rules, tests)) ∙ sym (any_taken _ _)
