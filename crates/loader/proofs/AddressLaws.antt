-- Which addresses a block has is its load range, and a window that a block is inside has all of them.
use Prim.Native.Nat.{ℕ, zero, suc, ◌+◌, ◌-◌, ◌<◌, ◌≤◌, min}
use mathlib.Core.Path.{◌≡◌, refl, sym, ◌∙◌}
use mathlib.Core.Bool.{Bool, true, false, ◌||◌, true≢false, and-eq-true_iff}
use mathlib.Core.List.{List, [], ◌∷◌}
use mathlib.Core.Logic.{◌⊎◌, inl, inr, ⊎_elim}
use native.Mathlib.Omega.{arith}
use borrow.Author.Tests.{leb-true, ltb-true, ltb-false, lt-ltb, le-ltb, le-leb}
use lib.ListN.{length}
use lib.Dec.{leb, ltb}
use Rattle.fields.specs.Program.{Block, has}
use Rattle.fields.proofs.TestLaws.{neither_holds}
use Rattle.loader.specs.Placing.{is_range_outside, is_outside, sizes_of}
use Rattle.loader.specs.Addresses.{is_written, Each, Misses, Disjoint, Within, count_below}

-- Tests.

-- where a test passes, and where it fails
pub on : {C : Type 0} (t : Bool) → (t ≡ true → C) → (t ≡ false → C) → C
on true y n = y refl
on false y n = n refl

pub not_both : {t : Bool} → t ≡ true → t ≡ false → ⊥
not_both y n = true≢false (sym y ∙ n)

-- One block.

module _ (b : Block) (a : ℕ) where
  pub has_range : has b a ≡ true → (b.load ≤ a) × (a < b.load + length b.bytes)
  unfolding has
  has_range h =
      let k = (and-eq-true_iff (leb b.load a) (ltb a (b.load + length b.bytes))).0 h in
      omega (arith, leb-true, ltb-true)

  pub has_in : b.load ≤ a → a < b.load + length b.bytes → has b a ≡ true
  unfolding has
  has_in l h = rw (le-leb b.load a l, lt-ltb a (b.load + length b.bytes) h)

  pub has_out : (b.load ≤ a → a < b.load + length b.bytes → ⊥) → has b a ≡ false
  has_out h = on (has b a) (λ y. absurd (h (has_range y).0 (has_range y).1)) (λ n. n)

  pub has_not : has b a ≡ false → (a < b.load) ⊎ (b.load + length b.bytes ≤ a)
  has_not h =
      on
      (ltb a b.load)
      (λ y. inl (ltb-true _ _ y))
      (λ n. inr
      (on
      (ltb a (b.load + length b.bytes))
      (λ y. absurd (not_both (has_in (ltb-false _ _ n) (ltb-true _ _ y)) h))
      (λ m. ltb-false _ _ m)))

pub within_window : (base room load size : ℕ) → is_range_outside base room load size ≡ false → (base ≤ load) × (load + size ≤ base + room)
within_window base room load size h =
    let k = neither_holds (ltb load base) (ltb (base + room) (load + size)) h in
    (ltb-false _ _ k.0, ltb-false _ _ k.1)

module _ (base room : ℕ) (b : Block) where
  pub inside_range : is_outside base room b ≡ false → (base ≤ b.load) × (b.load + length b.bytes ≤ base + room)
  unfolding is_outside
  inside_range h = within_window base room b.load (length b.bytes) h

  pub range_inside : base ≤ b.load → b.load + length b.bytes ≤ base + room → is_outside base room b ≡ false
  unfolding is_outside
  range_inside l h = rw (le-ltb _ _ l, le-ltb _ _ h)

-- Rows of blocks.

pub each_of : {P Q : Block → Type 0} (bs : List Block) → ((b : Block) → P b → Q b) → Each P bs → Each Q bs
each_of [] f e = tt
each_of (b ∷ bs) f e = (f b e.0, each_of bs f e.1)

pub each_both : {P Q R : Block → Type 0} (bs : List Block) → ((b : Block) → P b → Q b → R b) → Each P bs → Each Q bs → Each R bs
each_both [] f e d = tt
each_both (b ∷ bs) f e d = (f b e.0 d.0, each_both bs f e.1 d.1)

-- an address that a block has is written by none that misses it
pub missed : (b : Block) (a : ℕ) (bs : List Block) → has b a ≡ true → Each (Misses b) bs → is_written bs a ≡ false
unfolding is_written
missed b a [] h e = refl
missed b a (c ∷ bs) h e = rw (e.0 a h, missed b a bs h e.1)

pub misses_back : (b c : Block) → Misses b c → Misses c b
misses_back b c h a k = on (has b a) (λ y. absurd (not_both k (h a y))) (λ n. n)

-- Counting.

module _ (test : ℕ → Bool) (n : ℕ) where
  pub count_yes : test n ≡ true → count_below test (suc n) ≡ suc (count_below test n)
  unfolding count_below
  count_yes e = rw (e, count_below)

  pub count_no : test n ≡ false → count_below test (suc n) ≡ count_below test n
  unfolding count_below
  count_no e = rw (e, count_below)

pub count_none : (n : ℕ) → count_below (λ i. false) n ≡ 0
unfolding count_below
count_none zero = refl
count_none (suc n) = count_none n

-- where never both pass, what passes either is counted by both
pub count_or : (f g : ℕ → Bool) → ((i : ℕ) → f i ≡ true → g i ≡ false) → (n : ℕ) → count_below (λ i. f i || g i) n ≡ count_below f n + count_below g n
unfolding count_below
count_or f g apart zero = refl
count_or f g apart (suc n) =
    on
    (f n)
    (λ y. count_yes (λ i. f i || g i) n (rw y) ∙ rw (count_yes f n y, count_no g n (apart n y)) (omega (arith, count_or f g apart n)))
    (λ k. on
    (g n)
    (λ y. count_yes (λ i. f i || g i) n (rw (k, y)) ∙ rw (count_no f n k, count_yes g n y) (omega (arith, count_or f g apart n)))
    (λ m. count_no (λ i. f i || g i) n (rw (k, m)) ∙ rw (count_no f n k, count_no g n m) (count_or f g apart n)))

-- a block's addresses in a window whose base it is not below
pub count_range : (base : ℕ) (b : Block) → base ≤ b.load → (n : ℕ) → count_below (λ i. has b (base + i)) n ≡ min (n - (b.load - base)) (length b.bytes)
unfolding count_below
count_range base b l zero = omega arith
count_range base b l (suc n) =
    on
    (has b (base + n))
    (λ y. count_yes (λ i. has b (base + i)) n y ∙ omega (arith, has_range b (base + n) y, count_range base b l n))
    (λ k. count_no (λ i. has b (base + i)) n k
    ∙ ⊎_elim (λ u. omega (arith, count_range base b l n)) (λ v. omega (arith, count_range base b l n)) (has_not b (base + n) k))

-- the sizes of blocks that lie apart and inside a window count the addresses written
pub figure_counts : (base room : ℕ) (bs : List Block) → Disjoint bs → Within base room bs → sizes_of bs ≡ count_below (λ i. is_written bs (base + i)) room
unfolding sizes_of is_written
figure_counts base room [] apart inside = sym (count_none room)
figure_counts base room (b ∷ bs) apart inside =
    let r = inside_range base room b inside.0 in
    omega (
      arith,
      figure_counts base room bs apart.1 inside.1,
      count_range base b r.0 room,
      count_or (λ i. has b (base + i)) (λ i. is_written bs (base + i)) (λ i h. missed b (base + i) bs h apart.0) room,
    )
