-- Entries of the second bench table that are too long to compute: where bytes are many they may be any, and only their number is said.
use Prim.Native.Nat.{ℕ}
use mathlib.Core.Path.{◌≡◌, ◌∙◌}
use mathlib.Core.Bool.{false}
use mathlib.Core.List.{List, [], ◌∷◌, ◌++◌}
use lib.ListN.{length, length-take}
use Rattle.entries.specs.Bench.{Call, convert, measure, read, stand, load, result_of, none, file_a, image_a, AA, entry}
use Rattle.entries.specs.BenchFiles.{head, section}
use Rattle.fields.specs.Rules.{refused, unless}
use Rattle.fields.specs.Options.{plain, in_order, is_no_order}
use Rattle.image.specs.Order.{undone}
use Rattle.image.specs.Reading.{image_rules, read_image, reading_in}
use Rattle.image.proofs.OrderLaws.{length-undone, length-undone_from}
use Rattle.demands.proofs.Passing.{order_alone, image_reads}

-- the call is answered so
abbrev Answers : Call → ℕ → ℕ → List ℕ → List ℕ → Type 0
Answers call code index figures buffer = result_of call ≡ (entry call code index figures buffer).result

-- rule 1: a file of 16,777,217 bytes; A with as many behind it as make 16,777,216
pub file_too_long : (file out : List ℕ) → length file ≡ 16777217 → Answers (convert file out) 1 0 (0 ∷ 0 ∷ []) out
unfolding result_of
file_too_long file out h = rw h

pub file_not_too_long : (behind : List ℕ) → length behind ≡ 16777141 → Answers (convert (file_a ++ behind) (AA 28)) 0 0 (28 ∷ 1 ∷ []) image_a
unfolding result_of
file_not_too_long behind h = rw h

-- rule 14: two sections that share n bytes of raw data, which make an image of 32 + 2 n bytes
abbrev shared : ℕ → List ℕ → List ℕ
shared n raw = head 0xC2 2 0 2 0x99 ++ (section 0 0 n 118 0x20 ++ (section 0 0x1000000 n 118 0x20 ++ raw))

pub made_too_long : (raw out : List ℕ) → length raw ≡ 8388596 → Answers (convert (shared 8388596 raw) out) 14 0 (0 ∷ 0 ∷ []) out
unfolding result_of
made_too_long raw out h = simp (length-take, h)

pub made_not_too_long : (raw out : List ℕ) → length raw ≡ 8388592 → length out ≡ 16777215 → Answers (convert (shared 8388592 raw) out) 15 0 (0 ∷ 0 ∷ []) out
unfolding result_of
made_not_too_long raw out h k = simp (length-take, h, k)

-- the same files, measured
pub measured_too_long : (raw : List ℕ) → length raw ≡ 8388596 → Answers (measure (shared 8388596 raw)) 14 0 (0 ∷ 0 ∷ []) []
unfolding result_of
measured_too_long raw h = simp (length-take, h)

pub measured_not_too_long : (raw : List ℕ) → length raw ≡ 8388592 → Answers (measure (shared 8388592 raw)) 0 0 (16777216 ∷ 2 ∷ []) []
unfolding result_of
measured_not_too_long raw h = simp (length-take, h)

-- rule 20: an image of 16,777,217 bytes; one of 16,777,216, with an end flag and bytes behind it
pub image_too_long : (image : List ℕ) → length image ≡ 16777217 → Answers (read image) 20 0 (0 ∷ 0 ∷ []) []
unfolding result_of
image_too_long image h = rw (length-undone 0 image, h)

pub image_not_too_long : (behind : List ℕ) → length behind ≡ 16777208 → Answers (read (none 8 ++ behind)) 26 0 (0 ∷ 0 ∷ []) []
unfolding result_of
image_not_too_long behind h = rw h

-- and so of what stands at a place of it: behind the entry point the end flag
pub place_too_long : (image : List ℕ) (place : ℕ) → length image ≡ 16777217 → Answers (stand image place) 20 0 (0 ∷ 0 ∷ 0 ∷ 0 ∷ []) []
unfolding result_of
place_too_long image place h = rw (length-undone_from 0 place image, h)

pub place_not_too_long : (behind : List ℕ) → length behind ≡ 16777208 → Answers (stand (none 8 ++ behind) 4) 0 0 (0 ∷ 0 ∷ 0 ∷ 0 ∷ []) []
unfolding result_of
place_not_too_long behind h = rw h

-- in every order rule 20 is the same
pub image_too_long_in : (order : ℕ) → is_no_order order ≡ false → (image : List ℕ) → length image ≡ 16777217 → reading_in (in_order order plain) image ≡ refused 20 0
image_too_long_in order passes image h = image_reads (in_order order plain) (order_alone order passes) image ∙ refuses (undone order image) (length-undone order image ∙ h)
  where
    refuses : (i : List ℕ) → length i ≡ 16777217 → read_image i ≡ refused 20 0
    refuses i e = unfold read_image in unfold image_rules in unfold unless in rw e

-- rule 28: a window of 16,777,217 bytes, whatever the image is; one of 16,777,216, which ends at 2 ^ 32 or one behind it
module _ (window : List ℕ) where
  pub window_too_long : (image : List ℕ) → length window ≡ 16777217 → Answers (load image 0x400 window) 28 0 (0 ∷ []) window
  unfolding result_of
  window_too_long image h = rw h

  pub window_not_too_long : length window ≡ 16777216 → Answers (load (none 8) 0xFF000000 window) 0 0 (0 ∷ []) window
  unfolding result_of
  window_not_too_long h = rw h

  pub window_ends_behind : length window ≡ 16777216 → Answers (load (none 8) 0xFF000001 window) 28 0 (0 ∷ []) window
  unfolding result_of
  window_ends_behind h = rw h
