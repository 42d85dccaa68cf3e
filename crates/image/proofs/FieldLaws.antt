-- Bytes that are zero, from one place of a row up to another.
use Prim.Native.Nat.{ℕ, suc, ◌+◌, ◌-◌, ◌<◌, ◌≤◌}
use mathlib.Core.Path.{◌≡◌}
use mathlib.Core.Bool.{Bool, true, false, ◌&&◌}
use mathlib.Core.List.{List}
use native.Mathlib.Numerals.{add-one}
use native.Mathlib.Omega.{arith}
use lib.ListN.{length, take, drop, get_or}
use lib.Seq.{drop-cons}
use lib.Dec.{eqb}
use borrow.Author.Tests.{eq-eqb, ne_eqb}
use Rattle.image.specs.Reading.{zeros}

unfoldable pub zeros_in : List ℕ → ℕ → ℕ → Bool
zeros_in s from to = zeros (take (to - from) (drop from s))

module _ (s : List ℕ) (from to : ℕ) where
  pub zeros_none : to ≤ from → zeros_in s from to ≡ true
  unfolding zeros_in zeros
  zeros_none h = let e : to - from ≡ 0 = omega arith in rw e

  zeros_step : from < to → to ≤ length s → zeros_in s from to ≡ eqb (get_or s from 0) 0 && zeros_in s (from + 1) to
  unfolding zeros_in zeros
  zeros_step h k =
      let e : to - from ≡ suc (to - (from + 1)) = omega arith in
      let l : from < length s = omega arith in
      rw (e, drop-cons s from 0 l, add-one)

  pub zeros_more : from < to → to ≤ length s → get_or s from 0 ≡ 0 → zeros_in s from to ≡ zeros_in s (from + 1) to
  zeros_more h k z = rw (zeros_step h k, eq-eqb _ _ z)

  pub zeros_not : from < to → to ≤ length s → (get_or s from 0 ≡ 0 → ⊥) → zeros_in s from to ≡ false
  zeros_not h k z = rw (zeros_step h k, ne_eqb _ _ z)
