-- Ranges by their first and last addresses share an address where the same ranges by their sizes do.
use Prim.Native.Nat.{ℕ, ◌+◌, ◌<◌, ◌≤◌}
use mathlib.Core.Path.{◌≡◌}
use mathlib.Core.Bool.{false, ◌&&◌, and_comm, and-false}
use mathlib.Core.List.{List}
use mathlib.Core.Logic.{◌⊎◌, inl, inr, ⊎_elim}
use native.Mathlib.Nat.{eq-or-lt_of_le}
use native.Mathlib.Numerals.{add-one}
use native.Mathlib.Omega.{arith}
use lib.ListN.{length, get_or, set, take}
use lib.Seq.{get_or-take, get_or-set_same, get_or-set_other}
use lib.Dec.{leb, ltb, leb-suc-suc}
use borrow.Author.Tests.{le-ltb, leb-false}
use Rattle.fields.specs.Counting.{any_below}
use Rattle.fields.specs.Program.{share}
use Rattle.fields.proofs.CountingLaws.{any_same, any_below_lem}
use Rattle.fields.proofs.TestLaws.{one_fails}
use Rattle.ranges.specs.Held.{meets_at, meets_held}
use Rattle.ranges.specs.Search.{meets_one, Holds}

pub share_by_last : (load size last load' size' last' : ℕ) → last + 1 ≡ load + size → last' + 1 ≡ load' + size' → leb load last' && leb load' last ≡ share load size load' size'
unfolding share
share_by_last load size last load' size' last' p q = rw (← p, ← q, add-one, add-one, leb-suc-suc, leb-suc-suc)

pub share_swap : (load size load' size' : ℕ) → share load size load' size' ≡ share load' size' load size
unfolding share
share_swap load size load' size' = and_comm (ltb load (load' + size')) (ltb load' (load + size))

pub apart_share : (load size load' size' : ℕ) → (load + size ≤ load') ⊎ (load' + size' ≤ load) → share load size load' size' ≡ false
unfolding share
apart_share load size load' size' h = ⊎_elim (λ l. rw (le-ltb load' _ l, and-false)) (λ l. rw (le-ltb load _ l)) h

-- cutting the lists behind the first n keeps these
pub holds_front : (load size : ℕ → ℕ) (p n : ℕ) (firsts lasts : List ℕ) → Holds load size p n firsts lasts → Holds load size p n (take n firsts) (take n lasts)
holds_front load size p n firsts lasts h =
    record { begins = λ k b. rw (get_or-take n firsts k 0 b) (h.begins k b); ends = λ k b. rw (get_or-take n lasts k 0 b) (h.ends k b) }

-- none is held, and one more
pub holds_none : (load size : ℕ → ℕ) (p : ℕ) (firsts lasts : List ℕ) → Holds load size p 0 firsts lasts
holds_none load size p firsts lasts = record { begins = λ k b. absurd (omega arith); ends = λ k b. absurd (omega arith) }

pub holds_more : (load size : ℕ → ℕ) (p n : ℕ) (firsts lasts : List ℕ) → Holds load size p n firsts lasts → n < length firsts → n < length lasts → (first last : ℕ) → first ≡ load (p + n) → last + 1 ≡ load (p + n) + size (p + n) → Holds load size p (n + 1) (set firsts n first) (set lasts n last)
holds_more load size p n firsts lasts h l m first last e q =
    record {
      begins = λ k b.
          ⊎_elim
          (λ s. rw s (rw (get_or-set_same firsts n first 0 l) e))
          (λ s. rw (get_or-set_other firsts n k first 0 (λ t. omega arith)) (h.begins k s))
          (eq-or-lt_of_le {n = k} {m = n} (omega arith));
      ends = λ k b.
          ⊎_elim
          (λ s. rw s (rw (get_or-set_same lasts n last 0 m) q))
          (λ s. rw (get_or-set_other lasts n k last 0 (λ t. omega arith)) (h.ends k s))
          (eq-or-lt_of_le {n = k} {m = n} (omega arith));
    }

-- what is asked of the ranges held is asked of the ranges by their number, of any range ..
pub held_any : (load size : ℕ → ℕ) (p n : ℕ) (firsts lasts : List ℕ) → Holds load size p n firsts lasts → length firsts ≡ n → (load' size' last : ℕ) → last + 1 ≡ load' + size' → meets_held firsts lasts load' last ≡ any_below (λ k. share (load (p + k)) (size (p + k)) load' size') n
unfolding meets_held meets_at
held_any load size p n firsts lasts h l load' size' last q =
    rw l
    (any_same _ _ n
    (λ k b.
    rw (h.begins k b)
    (share_by_last (load (p + k)) (size (p + k)) (get_or lasts k 0) load' size' last (h.ends k b) q)))

-- .. and of one that has a number itself
pub held_is : (load size : ℕ → ℕ) (p n : ℕ) (firsts lasts : List ℕ) → Holds load size p n firsts lasts → length firsts ≡ n → (j first last : ℕ) → first ≡ load j → last + 1 ≡ load j + size j → meets_held firsts lasts first last ≡ meets_one load size p n j
unfolding meets_one
held_is load size p n firsts lasts h l j first last e q = rw e (held_any load size p n firsts lasts h l (load j) (size j) last q)

-- a range that meets none of those held lies before or behind each
pub held_apart : (firsts lasts : List ℕ) (first last : ℕ) → meets_held firsts lasts first last ≡ false → (k : ℕ) → k < length firsts → (get_or lasts k 0 < first) ⊎ (last < get_or firsts k 0)
unfolding meets_held meets_at
held_apart firsts lasts first last e k l =
    ⊎_elim (λ t. inr (leb-false _ _ t)) (λ t. inl (leb-false _ _ t)) (one_fails _ _ (any_below_lem _ (length firsts) k l e))
