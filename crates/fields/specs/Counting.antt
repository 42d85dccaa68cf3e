-- What is said of the numbers 0, 1, .. up to a count.
use Rattle.std.specs.Prelude.{ℕ, zero, suc, Bool, false, ◌||◌, cond, Option, Some, None, List, [], ◌++◌}

-- what g gives for each number below n, one after the other
unfoldable pub joined : {A : Type 0} → (ℕ → List A) → ℕ → List A
joined g zero = []
joined g (suc n) = joined g n ++ g n

-- some number below n passes the test
unfoldable pub any_below : (ℕ → Bool) → ℕ → Bool
any_below test zero = false
any_below test (suc n) = any_below test n || test n

-- the first number below n that passes the test, or n where none does
unfoldable pub first_below : (ℕ → Bool) → ℕ → ℕ
first_below test zero = zero
first_below test (suc n) = cond (any_below test n) (first_below test n) (cond (test n) n (suc n))

-- .. and where none does, nothing is found
unfoldable pub found_below : (ℕ → Bool) → ℕ → Option ℕ
found_below test n = cond (any_below test n) (Some (first_below test n)) None
