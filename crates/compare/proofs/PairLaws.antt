-- Two blocks share the addresses from the later start to the earlier end; they agree there where their run addresses are as far apart
-- as their load addresses and the bytes are equal.
use Prim.Native.Nat.{ℕ, ◌+◌, ◌-◌, ◌<◌, ◌≤◌, max, min}
use mathlib.Core.Path.{◌≡◌, refl, sym, ◌∙◌}
use mathlib.Core.Bool.{Bool, true, false, cond, true≢false}
use mathlib.Core.List.{List}
use native.Mathlib.Omega.{arith}
use lib.ListN.{length, take, drop, get_or, length-take, length-drop}
use lib.Seq.{get_or-take, get_or-drop}
use borrow.Author.Tests.{eqb-true, eq-eqb}
use Rattle.fields.specs.Program.{Block, has}
use Rattle.loader.proofs.AddressLaws.{on, has_range, has_in, has_out}
use Rattle.compare.specs.Same.{given}
use Rattle.compare.specs.Matching.{equal_at, equal_bytes, agree, shared_with, matching}
use Rattle.compare.proofs.CountLaws.{all_at, all_each, count_not_any, count_between}
use Rattle.compare.proofs.MatchLaws.{agree_at, agree_each}

-- where the blocks begin to share addresses, and where they end
abbrev pub Meeting : Block → Block → ℕ → ℕ → Type 0
Meeting b c from to = (from ≡ max b.load c.load) × (to ≡ min (b.load + length b.bytes) (c.load + length c.bytes))

-- the part of a block's bytes between two addresses
abbrev pub part : Block → ℕ → ℕ → List ℕ
part b from to = take (to - b.load - (from - b.load)) (drop (from - b.load) b.bytes)

-- what two blocks give is the same just where the bytes and the run addresses are
module _ (b c : Block) (a : ℕ) where
  abbrev SameByte : Type 0
  SameByte = get_or b.bytes (a - b.load) 0 ≡ get_or c.bytes (a - c.load) 0

  abbrev SameRun : Type 0
  SameRun = b.run + (a - b.load) ≡ c.run + (a - c.load)

  given_alike : SameByte → SameRun → given b a ≡ given c a
  unfolding given
  given_alike p q = rw (p, q)

  given_byte : given b a ≡ given c a → SameByte
  unfolding given
  given_byte h = cc

  given_run : given b a ≡ given c a → SameRun
  unfolding given
  given_run h = cc

-- taken from the start of a block, the end of a part stays behind its beginning
pub in_order_lem : (load from to : ℕ) → from < to → from - load ≤ to - load
in_order_lem load from to h = omega arith

disagree : (b c : Block) → agree b c ≡ false → 0 ≡ matching b c
unfolding matching
disagree b c h = rw h

no_then : (t : Bool) → (t ≡ true → ⊥) → t ≡ false
no_then t h = on t (λ y. absurd (h y)) (λ n. n)

module _ (b c : Block) (from to : ℕ) (m : Meeting b c from to) where
  pub share_none : to ≤ from → 0 ≡ matching b c
  unfolding matching shared_with
  share_none h =
      go (agree b c) (count_not_any (λ i. has b (c.load + i)) (length c.bytes) (λ i l. has_out b (c.load + i) (λ k o. omega arith)))
    where
      go : (t : Bool) {n : ℕ} → n ≡ 0 → 0 ≡ cond t n 0
      go true e = sym e
      go false e = refl

  module _ (h : from < to) where
    pub runs_apart : (b.run + c.load ≡ c.run + b.load → ⊥) → 0 ≡ matching b c
    runs_apart d = disagree b c (no_then (agree b c) no)
      where
        no : agree b c ≡ true → ⊥
        no k =
            let g : given b from ≡ given c from = agree_at b c k from (has_in b from (omega arith) (omega arith)) (has_in c from (omega arith) (omega arith)) in
            d (omega (arith, given_run b c from g))

    byte_in : (d : Block) (a : ℕ) → d.load ≤ from → from ≤ a → a < to → to ≤ d.load + length d.bytes → get_or (part d from to) (a - from) 0 ≡ get_or d.bytes (a - d.load) 0
    byte_in d a k l o p =
        let e : from - d.load + (a - from) ≡ a - d.load = omega arith in
        get_or-take (to - d.load - (from - d.load)) (drop (from - d.load) d.bytes) (a - from) 0 (omega arith)
        ∙ get_or-drop (from - d.load) d.bytes (a - from) 0
        ∙ rw e

    pub length_part : (d : Block) → d.load ≤ from → to ≤ d.load + length d.bytes → length (part d from to) ≡ to - from
    length_part d k p = simp (length-take, length-drop) (omega arith)

    pub equally_long : length (part b from to) ≡ length (part c from to)
    equally_long = length_part b (omega arith) (omega arith) ∙ sym (length_part c (omega arith) (omega arith))

    -- where the blocks agree, their parts have equal bytes
    at : (i : ℕ) → i < to - from → agree b c ≡ true → equal_at (part b from to) (part c from to) i ≡ true
    at i l k =
        let e : from + i - from ≡ i = omega arith in
        let g = agree_at b c k (from + i) (has_in b (from + i) (omega arith) (omega arith)) (has_in c (from + i) (omega arith) (omega arith)) in
        let x : get_or (part b from to) (from + i - from) 0 ≡ get_or (part c from to) (from + i - from) 0 = byte_in b (from + i) (omega arith) (omega arith) (omega arith) (omega arith) ∙ given_byte b c (from + i) g ∙ sym (byte_in c (from + i) (omega arith) (omega arith) (omega arith) (omega arith)) in
        eq-eqb (get_or (part b from to) i 0) (get_or (part c from to) i 0) (rw e at x)

    module _ (r : b.run + c.load ≡ c.run + b.load) where
      pub bytes_equal : equal_bytes (part b from to) (part c from to) ≡ true → to - from ≡ matching b c
      unfolding matching shared_with equal_bytes
      bytes_equal e =
          rw (agree_each b c same)
          (sym (count_between (λ i. has b (c.load + i)) (from - c.load) (to - from) (length c.bytes) (omega arith)
          (λ i l. has_out b (c.load + i) (λ k o. omega arith))
          (λ i l k. has_in b (c.load + i) (omega arith) (omega arith))
          (λ i l k. has_out b (c.load + i) (λ o x. omega arith))))
        where
          same : (a : ℕ) → has b a ≡ true → has c a ≡ true → given b a ≡ given c a
          same a k l =
              let p = has_range b a k in
              let q = has_range c a l in
              let long = length_part b (omega arith) (omega arith) in
              let x = all_at (equal_at (part b from to) (part c from to)) (length (part b from to)) (a - from) (omega arith) e in
              let y = eqb-true (get_or (part b from to) (a - from) 0) (get_or (part c from to) (a - from) 0) x in
              let z : get_or b.bytes (a - b.load) 0 ≡ get_or c.bytes (a - c.load) 0 = sym (byte_in b a (omega arith) (omega arith) (omega arith) (omega arith)) ∙ y ∙ byte_in c a (omega arith) (omega arith) (omega arith) (omega arith) in
              given_alike b c a z (omega arith)

      pub bytes_differ : equal_bytes (part b from to) (part c from to) ≡ false → 0 ≡ matching b c
      unfolding equal_bytes
      bytes_differ e = disagree b c (no_then (agree b c) no)
        where
          no : agree b c ≡ true → ⊥
          no k =
              let long = length_part b (omega arith) (omega arith) in
              true≢false
              (sym (all_each (equal_at (part b from to) (part c from to)) (length (part b from to)) (λ i l. at i (omega arith) k))
              ∙ e)
