-- Bytes reversed in each four of them, as a host of the other byte order has them.
use Rattle.std.specs.Prelude.{ℕ, ◌+◌, ◌*◌, ◌-◌, ◌/◌, ◌%◌, Bool, cond, List, [], ◌∷◌}

-- what is left at the end, fewer than four, stays as it is
unfoldable pub turned : List ℕ → List ℕ
turned [] = []
turned (a ∷ []) = a ∷ []
turned (a ∷ b ∷ []) = a ∷ b ∷ []
turned (a ∷ b ∷ c ∷ []) = a ∷ b ∷ c ∷ []
turned (a ∷ b ∷ c ∷ d ∷ rest) = d ∷ c ∷ b ∷ a ∷ turned rest

-- where a byte of a whole four stands when that is reversed: counted from its other end
unfoldable pub turned_place : ℕ → ℕ
turned_place i = i / 4 * 4 + (3 - i % 4)

-- reversed where that is asked for, and else as they stand
unfoldable pub turned_if : Bool → List ℕ → List ℕ
turned_if asked bytes = cond asked (turned bytes) bytes
