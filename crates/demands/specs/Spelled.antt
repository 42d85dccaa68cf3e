-- A pattern that only spells: no byte of it is a star or a question mark.
use Rattle.std.specs.Prelude.{ℕ, ◌≡◌, List, [], ◌∷◌}
use Rattle.patterns.specs.Taking.{star, question}

abbrev pub Spelled : List ℕ → Type 0
Spelled [] = Unit {0}
Spelled (b ∷ bs) = (b ≡ star → ⊥) × (b ≡ question → ⊥) × Spelled bs
