-- The test of rules 13 and 27 says what their sentence says: where each range begins below the other's end, the later begin is in both.
use Prim.Native.Nat.{ℕ, ◌+◌, ◌<◌, ◌≤◌, max}
use mathlib.Core.Path.{◌≡◌}
use mathlib.Core.Bool.{true, and-eq-true_iff}
use mathlib.Core.Logic.{◌↔◌}
use native.Mathlib.Omega.{arith}
use borrow.Author.Tests.{ltb-true, lt-ltb}
use lib.Dec.{ltb}
use Rattle.fields.specs.Program.{share}

-- an address of the range of `size` bytes from `load` on
abbrev pub InRange : ℕ → ℕ → ℕ → Type 0
InRange load size a = (load ≤ a) × (a < load + size)

-- Two ranges, neither of them empty, pass the test just where there is an address that is in both.
pub share_is : (load size load' size' : ℕ) → 0 < size → 0 < size' → (share load size load' size' ≡ true) ↔ ((a : ℕ) × InRange load size a × InRange load' size' a)
unfolding share
share_is l n m k real real' = (
  λ e.
      let q = (and-eq-true_iff (ltb l (m + k)) (ltb m (l + n))).0 e in
      let h = ltb-true l (m + k) q.0 in
      let j = ltb-true m (l + n) q.1 in
      (max l m, omega arith, omega arith),
  λ w. rw (lt-ltb l (m + k) (omega arith), lt-ltb m (l + n) (omega arith)),
)
