-- Whether one pattern takes a name, as the number that C gets: 1 where it does, and else 0.
use Rattle.std.specs.Prelude.{ℕ, cond, List}
use Rattle.patterns.specs.Taking.{takes_alone}

unfoldable pub taken_number : List ℕ → List ℕ → ℕ
taken_number pattern name = cond (takes_alone pattern name) 1 0
