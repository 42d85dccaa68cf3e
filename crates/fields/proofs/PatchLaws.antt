-- A buffer with bytes written over it: its length, its bytes, and writes that follow one another.
use Prim.Native.Nat.{ℕ, zero, suc, ◌+◌, ◌<◌, ◌≤◌}
use mathlib.Core.Path.{◌≡◌, refl, ap, sym, ◌∙◌}
use mathlib.Core.List.{List, [], ◌∷◌, ◌++◌, append_assoc}
use mathlib.Core.Logic.{◌⊎◌, inl, inr, ⊎_elim}
use native.Mathlib.Nat.{add-zero, zero-add, eq-or-lt_of_le}
use native.Mathlib.Numerals.{add-one}
use native.Mathlib.Omega.{arith}
use lib.ListN.{length, take, drop, get_or, set, length-set, length-drop, take-append-drop}
use lib.Seq.{length-take-le, drop-append-le, take-suc, sets, sets-eq, set-set, set_comm, get_or-set_same, get_or-set_other, drop-drop}
use borrow.Rule.Slice.PartMut.{mid_of, put_mid}
use Rattle.fields.specs.Patch.{patch}

pub length-patch : (xs : List ℕ) (at : ℕ) (ys : List ℕ) → length (patch xs at ys) ≡ length xs
unfolding patch
length-patch xs at [] = refl
length-patch xs at (y ∷ ys) = length-patch (set xs at y) (suc at) ys ∙ length-set xs at y

pub patch_nil : (xs : List ℕ) (at : ℕ) → patch xs at [] ≡ xs
unfolding patch
patch_nil xs at = refl

pub patch-append : (xs : List ℕ) (at : ℕ) (ys zs : List ℕ) → patch xs at (ys ++ zs) ≡ patch (patch xs at ys) (at + length ys) zs
unfolding patch
patch-append xs at [] zs = rw add-zero
patch-append xs at (y ∷ ys) zs =
    let e : suc at + length ys ≡ at + suc (length ys) = omega arith in
    rw (patch-append (set xs at y) (suc at) ys zs, e)

-- a write that begins where another ended
pub patch_then : (xs : List ℕ) (at : ℕ) (ys : List ℕ) (n : ℕ) (zs : List ℕ) → n ≡ at + length ys → patch (patch xs at ys) n zs ≡ patch xs at (ys ++ zs)
patch_then xs at ys n zs e = rw (patch-append xs at ys zs, e)

patch_sets : (xs : List ℕ) (at : ℕ) (ys : List ℕ) → patch xs at ys ≡ sets xs at ys
unfolding patch
patch_sets xs at [] = refl
patch_sets xs at (y ∷ ys) = patch_sets (set xs at y) (suc at) ys

-- inside the buffer a write is the front, the bytes written, and the rest
pub patch_parts : (xs : List ℕ) (at : ℕ) (ys : List ℕ) → at + length ys ≤ length xs → patch xs at ys ≡ take at xs ++ (ys ++ drop (at + length ys) xs)
patch_parts xs at ys h = patch_sets xs at ys ∙ sets-eq ys xs at h ∙ simp append_assoc

pub get_or-patch_before : (xs : List ℕ) (at : ℕ) (ys : List ℕ) (i : ℕ) → i < at → get_or (patch xs at ys) i 0 ≡ get_or xs i 0
unfolding patch
get_or-patch_before xs at [] i h = refl
get_or-patch_before xs at (y ∷ ys) i h =
    get_or-patch_before (set xs at y) (suc at) ys i (omega arith) ∙ get_or-set_other xs at i y 0 (omega arith)

pub get_or-patch_behind : (xs : List ℕ) (at : ℕ) (ys : List ℕ) (i : ℕ) → at + length ys ≤ i → get_or (patch xs at ys) i 0 ≡ get_or xs i 0
unfolding patch
get_or-patch_behind xs at [] i h = refl
get_or-patch_behind xs at (y ∷ ys) i h =
    get_or-patch_behind (set xs at y) (suc at) ys i (omega arith) ∙ get_or-set_other xs at i y 0 (omega arith)

pub get_or-patch_in : (xs : List ℕ) (at : ℕ) (ys : List ℕ) (i : ℕ) → i < length ys → at + length ys ≤ length xs → get_or (patch xs at ys) (at + i) 0 ≡ get_or ys i 0
unfolding patch
get_or-patch_in xs at [] i h k = absurd (omega arith)
get_or-patch_in xs at (y ∷ ys) zero h k =
    let e : at + 0 ≡ at = omega arith in
    rw e (get_or-patch_before (set xs at y) (suc at) ys at (omega arith) ∙ get_or-set_same xs at y 0 (omega arith))
get_or-patch_in xs at (y ∷ ys) (suc i) h k =
    let e : at + suc i ≡ suc at + i = omega arith in
    let l : suc at + length ys ≤ length (set xs at y) = simp length-set (omega arith) in
    rw e (get_or-patch_in (set xs at y) (suc at) ys i (omega arith) l)

set-patch : (xs : List ℕ) (at : ℕ) (ys : List ℕ) (i y : ℕ) → (i < at) ⊎ (at + length ys ≤ i) → set (patch xs at ys) i y ≡ patch (set xs i y) at ys
unfolding patch
set-patch xs at [] i y h = refl
set-patch xs at (z ∷ ys) i y h =
    let k : (i < suc at) ⊎ (suc at + length ys ≤ i) = ⊎_elim (λ l. inl (omega arith)) (λ l. inr (omega arith)) h in
    let n : i ≡ at → ⊥ = λ e. ⊎_elim (λ l. omega arith) (λ l. omega arith) h in
    set-patch (set xs at z) (suc at) ys i y k ∙ ap (λ (l : List ℕ). patch l (suc at) ys) (set_comm xs at i z y (λ e. n (sym e)))

-- writes that lie apart may be made in either order
pub patch_comm : (xs : List ℕ) (at : ℕ) (ys : List ℕ) (to : ℕ) (zs : List ℕ) → (to + length zs ≤ at) ⊎ (at + length ys ≤ to) → patch (patch xs at ys) to zs ≡ patch (patch xs to zs) at ys
unfolding patch
patch_comm xs at ys to [] h = refl
patch_comm xs at ys to (z ∷ zs) h =
    let k : (to < at) ⊎ (at + length ys ≤ to) = ⊎_elim (λ l. inl (omega arith)) (λ l. inr l) h in
    let m : (suc to + length zs ≤ at) ⊎ (at + length ys ≤ suc to) = ⊎_elim (λ l. inl (omega arith)) (λ l. inr (omega arith)) h in
    rw (set-patch xs at ys to z k) (patch_comm (set xs to z) at ys (suc to) zs m)

set_over : (xs : List ℕ) (at : ℕ) (ys : List ℕ) (i x : ℕ) → at ≤ i → i < at + length ys → patch (set xs i x) at ys ≡ patch xs at ys
unfolding patch
set_over xs at [] i x h k = absurd (omega arith)
set_over xs at (y ∷ ys) i x h k =
    ⊎_elim
    (λ e. rw e (ap (λ (r : List ℕ). patch r (suc i) ys) (set-set xs i x y)))
    (λ l. ap (λ (r : List ℕ). patch r (suc at) ys) (set_comm xs i at x y (omega arith)) ∙ set_over (set xs at y) (suc at) ys i x l (omega arith))
    (eq-or-lt_of_le h)

-- of what is written over nothing is left ..
patch_over : (xs : List ℕ) (at : ℕ) (ys : List ℕ) (to : ℕ) (zs : List ℕ) → at ≤ to → to + length zs ≤ at + length ys → patch (patch xs to zs) at ys ≡ patch xs at ys
unfolding patch
patch_over xs at ys to [] h k = refl
patch_over xs at ys to (z ∷ zs) h k =
    patch_over (set xs to z) at ys (suc to) zs (omega arith) (omega arith) ∙ set_over xs at ys to z h (omega arith)

-- .. and of a row whose front is written over, the rest
pub patch_rest : (xs : List ℕ) (at : ℕ) (ys : List ℕ) (to : ℕ) (zs ws : List ℕ) → at ≤ to → to + length zs ≡ at + length ys → patch (patch xs to (zs ++ ws)) at ys ≡ patch xs at (ys ++ ws)
patch_rest xs at ys to zs ws h e =
    rw (patch-append xs to zs ws, patch_comm (patch xs to zs) (to + length zs) ws at ys (inl (omega arith)), patch_over xs at ys to zs h (omega arith))
    (patch_then xs at ys (to + length zs) ws e)

-- a part that was lent on, and has come back as other bytes
pub part_written : (a k : ℕ) (xs ys : List ℕ) → length ys ≡ k → a + k ≤ length xs → put_mid a k xs ys ≡ patch xs a ys
part_written a k xs ys l h = rw (← l, drop-drop) (sym (patch_parts xs a ys (omega arith)))

-- a part that was lent on, and has come back with bytes written over its front
pub part_front : (a k : ℕ) (xs ys : List ℕ) → length ys ≤ k → a + k ≤ length xs → put_mid a k xs (patch (mid_of a k xs) 0 ys) ≡ patch xs a ys
part_front a k xs ys h g =
    let m = mid_of a k xs in
    let l : length m ≡ k = length-take-le k (drop a xs) (simp length-drop (omega arith)) in
    let whole : patch m 0 ys ≡ ys ++ drop (length ys) m = patch_parts m 0 ys (omega arith) ∙ rw zero-add in
    let rest : drop (length ys) m ++ drop k (drop a xs) ≡ drop (a + length ys) xs =
    sym (drop-append-le (length ys) m (drop k (drop a xs)) (omega arith)) ∙ rw (take-append-drop k (drop a xs)) (drop-drop (length ys) a xs)
    in
    rw (whole, append_assoc, rest) (sym (patch_parts xs a ys (omega arith)))

-- one byte more, behind the first i of a row
pub patch_more : (xs : List ℕ) (at : ℕ) (ys : List ℕ) (i : ℕ) → i < length ys → set (patch xs at (take i ys)) (at + i) (get_or ys i 0) ≡ patch xs at (take (i + 1) ys)
unfolding patch
patch_more xs at ys i h =
    let l : length (take i ys) ≡ i = length-take-le i ys (omega arith) in
    rw (add-one, take-suc ys i 0 h, patch-append xs at (take i ys) (get_or ys i 0 ∷ []), l)
