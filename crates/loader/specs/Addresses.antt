-- Blocks by the addresses they have.
use Rattle.std.specs.Prelude.{ℕ, zero, suc, ◌≡◌, Bool, true, false, ◌||◌, List, [], ◌∷◌}
use Rattle.fields.specs.Program.{Block, has}
use Rattle.loader.specs.Placing.{is_outside}

-- the address is one of some block's
unfoldable pub is_written : List Block → ℕ → Bool
is_written [] a = false
is_written (b ∷ bs) a = has b a || is_written bs a

-- P holds of each block
abbrev pub Each : (Block → Type 0) → List Block → Type 0
Each P [] = Unit {0}
Each P (b ∷ bs) = P b × Each P bs

-- no address of b is one of c's
abbrev pub Misses : Block → Block → Type 0
Misses b c = (a : ℕ) → has b a ≡ true → has c a ≡ false

-- no address is one of two blocks'
abbrev pub Disjoint : List Block → Type 0
Disjoint [] = Unit {0}
Disjoint (b ∷ bs) = Each (Misses b) bs × Disjoint bs

-- each block is wholly inside the window of `room` bytes from `base` on
abbrev pub Within : ℕ → ℕ → List Block → Type 0
Within base room bs = Each (λ b. is_outside base room b ≡ false) bs

-- how many numbers below n pass the test
unfoldable pub count_below : (ℕ → Bool) → ℕ → ℕ
count_below test zero = 0
count_below test (suc n) = elim (test n) [ true ↦ suc (count_below test n) | false ↦ count_below test n ]
