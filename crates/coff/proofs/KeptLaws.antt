-- Laws of what is kept. Of code and data only paper 01's sentence can hold, since they have a type, and of any other section only request Two's; both ask for
-- a size.
use Prim.Native.Nat.{ℕ, ◌<◌}
use mathlib.Core.Path.{◌≡◌, refl, sym}
use mathlib.Core.Bool.{Bool, true, false, not, ◌&&◌, ◌||◌}
use lib.Dec.{eqb}
use borrow.Author.Tests.{ne_eqb, eqb-false}
use native.Mathlib.Omega.{arith}
use Rattle.coff.specs.File.{Section}
use Rattle.coff.specs.Kept.{has_flag, is_shut_out, is_code_or_data, has_type, is_kept}

code_has_type : (flags : ℕ) → is_code_or_data flags ≡ true → has_type flags ≡ true
code_has_type flags = go (has_flag flags 0x1 || has_flag flags 0x2 || has_flag flags 0x4 || has_flag flags 0x8 || has_flag flags 0x10) (has_flag flags 0x20) (has_flag flags 0x40) (has_flag flags 0x80) (has_flag flags 0x8000)
  where
    go : (others code values bss vectors : Bool) → code || values || vectors ≡ true → others || code || values || bss || vectors ≡ true
    go true _ _ _ _ h = refl
    go false true _ _ _ h = refl
    go false false true _ _ h = refl
    go false false false true _ h = refl
    go false false false false _ h = h

module _ (s : Section) where
  -- without a size neither sentence keeps it
  pub empty_left : s.size ≡ 0 → false ≡ is_kept s
  unfolding is_kept
  empty_left e = rw e (go (has_type s.flags) (not (eqb s.raw 0)))
    where
      go : (typed stored : Bool) → false ≡ (not typed && false && stored)
      go true stored = refl
      go false stored = refl

  -- with one, by the tests of its flags as they were answered
  module _ (sized : s.size ≡ 0 → ⊥) where
    pub code_kept : (out : Bool) → out ≡ is_shut_out s.flags → is_code_or_data s.flags ≡ true → not out ≡ is_kept s
    unfolding is_kept
    code_kept out e h = rw (ne_eqb s.size 0 sized, code_has_type s.flags h, h, ← e) (go out)
      where
        go : (out : Bool) → not out ≡ (not out && true || false)
        go true = refl
        go false = refl

    pub others_kept : (typed : Bool) → typed ≡ has_type s.flags → is_code_or_data s.flags ≡ false → (not typed && not (eqb s.raw 0)) ≡ is_kept s
    unfolding is_kept
    others_kept typed e h = rw (ne_eqb s.size 0 sized, h, ← e) (go (is_shut_out s.flags) typed (not (eqb s.raw 0)))
      where
        go : (out typed stored : Bool) → (not typed && stored) ≡ (not out && false || not typed && true && stored)
        go true true stored = refl
        go true false stored = refl
        go false true stored = refl
        go false false stored = refl

  pub kept_filled : is_kept s ≡ true → 0 < s.size
  unfolding is_kept
  kept_filled k =
      let n = eqb-false s.size 0 (go (eqb s.size 0) (not (is_shut_out s.flags)) (is_code_or_data s.flags) (not (has_type s.flags)) (not (eqb s.raw 0)) k) in
      omega arith
    where
      go : (empty let-in code plain stored : Bool) → not empty && let-in && code || plain && not empty && stored ≡ true → empty ≡ false
      go false _ _ _ _ h = refl
      go true _ _ true _ h = sym h
      go true _ _ false _ h = sym h
