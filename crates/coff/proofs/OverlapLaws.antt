-- Rule 13 by pairs: a section that begins where all before it have ended meets none of them, and one pair that meets is enough.
use Prim.Native.Nat.{ℕ, ◌+◌, ◌<◌, ◌≤◌}
use mathlib.Core.Path.{◌≡◌, refl, sym, ◌∙◌}
use mathlib.Core.Bool.{Bool, true, false, ◌&&◌, true≢false, and-false}
use mathlib.Core.List.{List}
use lib.Dec.{ltb}
use borrow.Author.Count.{below_more}
use borrow.Author.Tests.{le-ltb}
use native.Mathlib.Omega.{arith}
use Rattle.fields.specs.Counting.{joined, any_below}
use Rattle.fields.specs.Program.{share}
use Rattle.fields.proofs.CountingLaws.{any_more, any_one, any_same, none_passes, joined_same}
use Rattle.fields.specs.Rules.{refused, ruling_of, Silent}
use Rattle.fields.proofs.RuleLaws.{silent_more, refused_at, broken}
use Rattle.coff.specs.File.{Section, section_of}
use Rattle.coff.specs.Refusals.{share_load, do_meet, meets_earlier, overlap_rules}

-- all kept sections below i end at `top` or below
abbrev pub Topped : (ℕ → Bool) → List ℕ → ℕ → ℕ → Type 0
Topped keep f i top = (k : ℕ) → k < i → keep k ≡ true → (section_of f k).load + (section_of f k).size ≤ top

-- section i meets none of the first j
abbrev pub Clear : (ℕ → Bool) → List ℕ → ℕ → ℕ → Type 0
Clear keep f i j = any_below (λ k. do_meet keep f k i) j ≡ false

-- what ends where another begins, or before, does not meet it
past_it : (s t : Section) (p q : Bool) (top : ℕ) → (p ≡ true → s.load + s.size ≤ top) → top ≤ t.load → p && (q && share_load s t) ≡ false
unfolding share_load share
past_it s t false q top ends begins = refl
past_it s t true false top ends begins = refl
past_it s t true true top ends begins =
    let a = ends refl in
    rw (le-ltb t.load (s.load + s.size) (omega arith)) (and-false (ltb s.load (t.load + t.size)))

module _ (keep : ℕ → Bool) (f : List ℕ) (i : ℕ) where
  -- a whole turn
  pub silent_turn : Clear keep f i i → Silent (joined (overlap_rules keep f) i) → Silent (joined (overlap_rules keep f) (i + 1))
  unfolding meets_earlier
  silent_turn h s = silent_more (overlap_rules keep f) i s (h, tt)

  -- a section that is left meets none, and ends nowhere
  module _ (k : keep i ≡ false) where
    pub clear_left : Clear keep f i i
    unfolding do_meet
    clear_left = none_passes _ i (λ j b. rw k (and-false (keep j)))

    pub topped_left : (top : ℕ) → Topped keep f i top → Topped keep f (i + 1) top
    topped_left top high = below_more _ i high (λ z. absurd (true≢false (sym z ∙ k)))

  -- one that is kept, by its header
  module _ (k : keep i ≡ true) (later : Section) (here : later ≡ section_of f i) where
    -- nothing to compare
    pub clear_at_once : (top : ℕ) → Topped keep f i top → top ≤ later.load → Clear keep f i i
    unfolding do_meet
    clear_at_once top high h =
        none_passes _ i (λ j b. past_it (section_of f j) (section_of f i) (keep j) (keep i) top (high j b) (rw here at h))

    pub topped_kept : (top up : ℕ) → Topped keep f i top → (top ≤ up) × (later.load + later.size ≤ up) → Topped keep f (i + 1) up
    topped_kept top up high r =
        let low : Topped keep f i up = λ j b q. omega (arith, high j b q) in
        below_more _ i low (λ z. rw here at r.1)

    module _ (j : ℕ) (first : Section) (there : first ≡ section_of f j) (first-kept : Bool) (told : first-kept ≡ keep j) where
      met_is : do_meet keep f j i ≡ (first-kept && share_load first later)
      unfolding do_meet
      met_is = rw (k, here, there, told)

      -- one more compared
      pub clear_more : first-kept && share_load first later ≡ false → Clear keep f i j → Clear keep f i (j + 1)
      clear_more z h = any_more _ j h (met_is ∙ z)

      -- one that meets
      pub meeting : (n : ℕ) → first-kept && share_load first later ≡ true → j < i → i < n → Silent (joined (overlap_rules keep f) i) → refused 13 i ≡ ruling_of (joined (overlap_rules keep f) n)
      unfolding meets_earlier
      meeting n z b h s =
          let found : meets_earlier keep f i ≡ true = any_one _ i j b (met_is ∙ z) in
          sym (refused_at (overlap_rules keep f) n i (tt {0}) (tt {0}) h s (broken 0 (overlap_rules keep f i) (tt {0}) (tt, (found, refl, refl))))

-- Two tests that agree on the sections below n have the same rows.
module _ (f : List ℕ) (keep keep' : ℕ → Bool) (n : ℕ) (same : (i : ℕ) → i < n → keep i ≡ keep' i) where
  pub meets_same : (i j : ℕ) → i < n → j < n → do_meet keep f i j ≡ do_meet keep' f i j
  unfolding do_meet
  meets_same i j h l = rw (same i h, same j l)

  earlier_same : (j : ℕ) → j < n → meets_earlier keep f j ≡ meets_earlier keep' f j
  unfolding meets_earlier
  earlier_same j h = any_same _ _ j (λ i l. meets_same i j (omega arith) h)

  pub pairs_same : joined (overlap_rules keep f) n ≡ joined (overlap_rules keep' f) n
  pairs_same = joined_same (overlap_rules keep f) (overlap_rules keep' f) n (λ j h. rw (earlier_same j h))
