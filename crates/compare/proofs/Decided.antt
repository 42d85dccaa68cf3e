-- "Same" is decided by what computes it: an address that was not looked at is no block's, so it receives nothing from both.
use Prim.Native.Nat.{ℕ, zero, suc, ◌+◌, ◌-◌, ◌<◌}
use mathlib.Core.Path.{◌≡◌, refl, sym, ◌∙◌}
use mathlib.Core.Bool.{true, and-eq-true_iff}
use mathlib.Core.List.{List, [], ◌∷◌, ◌++◌}
use mathlib.Core.Logic.{⊎_elim, ◌↔◌}
use native.Mathlib.Nat.{eq-or-lt_of_le, le_of_suc-le-suc}
use native.Mathlib.Omega.{arith}
use borrow.Author.Tests.{eqb-true, eq-eqb}
use lib.ListN.{length}
use lib.Dec.{eqb}
use Rattle.fields.specs.Counting.{joined}
use Rattle.fields.specs.Program.{Block, has}
use Rattle.loader.specs.Addresses.{is_written}
use Rattle.loader.proofs.AddressLaws.{on, not_both, has_range}
use Rattle.compare.specs.Same.{Received, nothing, byte, received, alike, addresses_of, alike_at, same_placement}
use Rattle.compare.proofs.ReceivedLaws.{received_none}

-- One address.

pub alike_self : (r : Received) → alike r r ≡ true
unfolding alike
alike_self nothing = refl
alike_self (byte v r) = rw (eq-eqb v v refl, eq-eqb r r refl)

pub alike_same : (r s : Received) → alike r s ≡ true → r ≡ s
unfolding alike
alike_same nothing nothing h = refl
alike_same nothing (byte v r) h = absurd (not_both h refl)
alike_same (byte v r) nothing h = absurd (not_both h refl)
alike_same (byte v r) (byte w s) h =
    let k = (and-eq-true_iff (eqb v w) (eqb r s)).0 h in
    rw (eqb-true v w k.0, eqb-true r s k.1)

-- Rows of addresses, of two rows of blocks.
module _ (bs cs : List Block) where
  alike_parts : (xs ys : List ℕ) → alike_at bs cs (xs ++ ys) ≡ true → (alike_at bs cs xs ≡ true) × (alike_at bs cs ys ≡ true)
  unfolding alike_at
  alike_parts [] ys h = (refl, h)
  alike_parts (x ∷ xs) ys h =
      let k = (and-eq-true_iff (alike (received bs x) (received cs x)) (alike_at bs cs (xs ++ ys))).0 h in
      let m = alike_parts xs ys k.1 in
      (rw (k.0, m.0), m.1)

  alike_joined : (g : ℕ → List ℕ) (n i : ℕ) → i < n → alike_at bs cs (joined g n) ≡ true → alike_at bs cs (g i) ≡ true
  unfolding joined
  alike_joined g zero i l h = absurd (omega arith)
  alike_joined g (suc n) i l h =
      let k = alike_parts (joined g n) (g n) h in
      ⊎_elim (λ e. rw e k.1) (λ m. alike_joined g n i m k.0) (eq-or-lt_of_le (le_of_suc-le-suc l))

  alike_one : (a : ℕ) → alike_at bs cs (a ∷ []) ≡ true → received bs a ≡ received cs a
  unfolding alike_at
  alike_one a h = alike_same (received bs a) (received cs a) ((and-eq-true_iff (alike (received bs a) (received cs a)) true).0 h).0

  -- an address of a block of the row was looked at
  alike_listed : (ds : List Block) (a : ℕ) → is_written ds a ≡ true → alike_at bs cs (addresses_of ds) ≡ true → received bs a ≡ received cs a
  unfolding is_written addresses_of
  alike_listed [] a h k = absurd (not_both h refl)
  alike_listed (d ∷ ds) a h k =
      let m = alike_parts (joined (λ i. (d.load + i) ∷ []) (length d.bytes)) (addresses_of ds) k in
      on
      (has d a)
      (λ y.
      let e : d.load + (a - d.load) ≡ a = omega (arith, has_range d a y) in
      let l : a - d.load < length d.bytes = omega (arith, has_range d a y) in
      alike_one a (rw e at (alike_joined (λ i. (d.load + i) ∷ []) (length d.bytes) (a - d.load) l m.0)))
      (λ n. alike_listed ds a (sym (rw n) ∙ h) m.1)

  alike_all : ((a : ℕ) → received bs a ≡ received cs a) → (xs : List ℕ) → alike_at bs cs xs ≡ true
  unfolding alike_at
  alike_all same [] = refl
  alike_all same (x ∷ xs) = rw (same x, alike_self (received cs x), alike_all same xs)

  -- the computed test passes exactly where every address receives the same from both
  pub decided : (same_placement bs cs ≡ true) ↔ ((a : ℕ) → received bs a ≡ received cs a)
  unfolding same_placement
  decided = (
    λ h a.
        let m = alike_parts (addresses_of bs) (addresses_of cs) h in
        on
        (is_written bs a)
        (λ y. alike_listed bs a y m.0)
        (λ n. on (is_written cs a) (λ y. alike_listed cs a y m.1) (λ k. received_none bs a n ∙ sym (received_none cs a k))),
    λ same. alike_all same (addresses_of bs ++ addresses_of cs),
  )
