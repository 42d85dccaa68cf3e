-- Numbers whose four bytes are reversed: as sums, as bytes, and four by four in a row.
use Prim.Native.Nat.{ℕ, zero, suc, ◌+◌, ◌*◌, ◌/◌, ◌^◌, ◌<◌, ◌≤◌}
use mathlib.Core.Path.{◌≡◌, refl, ap, sym, ◌∙◌}
use mathlib.Core.List.{List, [], ◌∷◌}
use native.Mathlib.Omega.{arith}
use lib.ListN.{length, take, drop, length-drop}
use lib.Seq.{take-add, drop-drop, length-take-le}
use mir.Syntax.{w32}
use Rattle.std.specs.Int.{swap_bytes}
use Rattle.fields.specs.Number.{number, little, field_at, u32_at, le32, Bytes}
use Rattle.fields.specs.Patch.{patch}
use Rattle.fields.specs.Turning.{turned}
use Rattle.fields.proofs.NumberLaws.{little-number, le32_bytes, le32_u32, length-le32}
use Rattle.fields.proofs.PatchLaws.{patch_then}
use Rattle.fields.proofs.TurningLaws.{length-turned, bytes_turned, turned-append}

pub bytes_little : (w n : ℕ) → Bytes (little w n)
unfolding little
bytes_little zero n = tt
bytes_little (suc w) n = (omega arith, bytes_little w (n / 256))

-- the library's sum
pub swapped : (n : ℕ) → n < 2 ^ 32 → swap_bytes w32 n ≡ number (turned (le32 n))
unfolding number turned
swapped n h = rw le32_bytes (omega arith)

-- written, it is the four bytes reversed
pub le32-turned : (n : ℕ) → le32 (number (turned (le32 n))) ≡ turned (le32 n)
unfolding le32
le32-turned n =
    let l : length (turned (le32 n)) ≡ 4 = length-turned (le32 n) ∙ length-le32 n in
    unfold le32 in rw l at (little-number (turned (le32 n)) (bytes_turned (le32 n) (bytes_little 4 n)))

-- of four bytes at a place
pub turned_field : (s : List ℕ) (at : ℕ) → Bytes s → at + 4 ≤ length s → turned (le32 (u32_at s at)) ≡ turned (field_at 4 s at)
unfolding field_at
turned_field s at b h = ap turned (le32_u32 s at b h)

-- no bytes yet
pub turned_none : (xs s : List ℕ) (at n : ℕ) → n ≡ 0 → xs ≡ patch xs at (turned (field_at n s at))
unfolding patch turned field_at
turned_none xs s at n e = rw e (none (drop at s))
  where
    none : (l : List ℕ) → xs ≡ patch xs at (turned (take 0 l))
    none [] = unfold patch in unfold turned in refl
    none (b ∷ l) = unfold patch in unfold turned in refl

pub field_front : (n : ℕ) (s : List ℕ) → field_at n s 0 ≡ take n s
unfolding field_at
field_front n [] = refl
field_front n (b ∷ s) = refl

-- fours behind fours: a part of a row that is written reversed, and the part behind it
pub turned_on : (xs s : List ℕ) (at m n to k : ℕ) → to ≡ at + 4 * m → k ≡ 4 * m + n → to ≤ length s → patch (patch xs at (turned (field_at (4 * m) s at))) to (turned (field_at n s to)) ≡ patch xs at (turned (field_at k s at))
unfolding field_at
turned_on xs s at m n to k e f h =
    let front = take (4 * m) (drop at s) in
    let l : length front ≡ 4 * m = length-take-le (4 * m) (drop at s) (simp length-drop (omega arith)) in
    let g : at + 4 * m ≡ at + length (turned front) = omega (arith, l, length-turned front) in
    rw (e, f)
    (patch_then xs at (turned front) (at + 4 * m) (turned (take n (drop (at + 4 * m) s))) g
    ∙ ap (patch xs at) (sym (turned-append m front (take n (drop (at + 4 * m) s)) l) ∙ ap turned (rw (← (drop-drop (4 * m) at s)) (sym (take-add (4 * m) n (drop at s))))))

-- sixteen bytes as four numbers
pub sixteen_turned : (xs s : List ℕ) (at : ℕ) → Bytes s → at + 16 ≤ length s → patch (patch (patch (patch xs at (turned (le32 (u32_at s at)))) (at + 4) (turned (le32 (u32_at s (at + 4))))) (at + 8) (turned (le32 (u32_at s (at + 8))))) (at + 12) (turned (le32 (u32_at s (at + 12)))) ≡ patch xs at (turned (field_at 16 s at))
sixteen_turned xs s at b h =
    rw (turned_field s at b (omega arith), turned_field s (at + 4) b (omega arith), turned_field s (at + 8) b (omega arith), turned_field s (at + 12) b (omega arith))
    (ap (λ (l : List ℕ). patch (patch l (at + 8) (turned (field_at 4 s (at + 8)))) (at + 12) (turned (field_at 4 s (at + 12)))) (turned_on xs s at 1 4 (at + 4) 8 refl refl (omega arith))
    ∙ ap (λ (l : List ℕ). patch l (at + 12) (turned (field_at 4 s (at + 12)))) (turned_on xs s at 2 4 (at + 8) 12 refl refl (omega arith))
    ∙ turned_on xs s at 3 4 (at + 12) 16 refl refl (omega arith))
