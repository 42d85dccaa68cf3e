-- Ranges by their number, counted from 0: where each begins, and its size. Whatever they are read from, this is what is asked of them.
use Rattle.std.specs.Prelude.{ℕ, ◌+◌, ◌<◌, ◌≡◌, Bool, false, List, get_or}
use Rattle.fields.specs.Counting.{any_below}
use Rattle.fields.specs.Program.{share}

-- the range of number j meets an earlier one
unfoldable pub meets_earlier : (ℕ → ℕ) → (ℕ → ℕ) → ℕ → Bool
meets_earlier load size j = any_below (λ i. share (load i) (size i) (load j) (size j)) j

-- no range below number n does
unfoldable pub NoneMeets : (ℕ → ℕ) → (ℕ → ℕ) → ℕ → Type 0
NoneMeets load size n = any_below (meets_earlier load size) n ≡ false

-- one of the n ranges from number p on meets an earlier one
unfoldable pub meets_among : (ℕ → ℕ) → (ℕ → ℕ) → ℕ → ℕ → Bool
meets_among load size p n = any_below (λ q. meets_earlier load size (p + q)) n

-- .. meets an earlier one of these n
unfoldable pub meets_together : (ℕ → ℕ) → (ℕ → ℕ) → ℕ → ℕ → Bool
meets_together load size p n = any_below (meets_earlier (λ k. load (p + k)) (λ k. size (p + k))) n

-- the range of number i meets one of the n ranges from number p on
unfoldable pub meets_one : (ℕ → ℕ) → (ℕ → ℕ) → ℕ → ℕ → ℕ → Bool
meets_one load size p n i = any_below (λ k. share (load (p + k)) (size (p + k)) (load i) (size i)) n

-- the first n of those held are the ranges from number p on
pub record Holds (load size : ℕ → ℕ) (p n : ℕ) (firsts lasts : List ℕ) : Type 0 where
  pub begins : (k : ℕ) → k < n → get_or firsts k 0 ≡ load (p + k)
  pub ends : (k : ℕ) → k < n → get_or lasts k 0 + 1 ≡ load (p + k) + size (p + k)
