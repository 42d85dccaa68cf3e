-- What placing makes of a window: a block's bytes stand at its addresses, since no later block that lies apart from it writes there again.
use Prim.Native.Nat.{ℕ, ◌+◌, ◌-◌, ◌≤◌}
use mathlib.Core.Path.{◌≡◌, refl, ◌∙◌}
use mathlib.Core.Bool.{false}
use mathlib.Core.List.{List, [], ◌∷◌}
use mathlib.Core.Logic.{⊎_elim}
use native.Mathlib.Omega.{arith}
use lib.ListN.{length, get_or}
use Rattle.fields.specs.Patch.{patch}
use Rattle.fields.specs.Program.{Block, has}
use Rattle.fields.proofs.PatchLaws.{length-patch, get_or-patch_before, get_or-patch_behind, get_or-patch_in}
use Rattle.fields.proofs.TestLaws.{neither_holds}
use Rattle.loader.specs.Placing.{is_outside, placed}
use Rattle.loader.specs.Addresses.{is_written, Each, Disjoint, Within}
use Rattle.loader.proofs.PlacingLaws.{length_placed}
use Rattle.loader.proofs.AddressLaws.{has_range, has_not, inside_range, missed, figure_counts}
use Rattle.demands.specs.Loaded.{Holds, Loaded}

-- One block in the window.
module _ (base : ℕ) (window : List ℕ) (b : Block) where
  one_kept : (i : ℕ) → base ≤ b.load → has b (base + i) ≡ false → get_or (patch window (b.load - base) b.bytes) i 0 ≡ get_or window i 0
  one_kept i l h =
      ⊎_elim
      (λ u. get_or-patch_before window (b.load - base) b.bytes i (omega arith))
      (λ v. get_or-patch_behind window (b.load - base) b.bytes i (omega arith))
      (has_not b (base + i) h)

  one_holds : is_outside base (length window) b ≡ false → Holds base (patch window (b.load - base) b.bytes) b
  one_holds h a k =
      let r = inside_range base (length window) b h in
      let e : a - base ≡ b.load - base + (a - b.load) = omega (arith, has_range b a k) in
      rw e (get_or-patch_in window (b.load - base) b.bytes (a - b.load) (omega (arith, has_range b a k)) (omega arith))

-- every byte of the window that no block has the address of is what it was
pub others_kept : (base room : ℕ) (window : List ℕ) (bs : List Block) → Within base room bs → (i : ℕ) → is_written bs (base + i) ≡ false → get_or (placed base window bs) i 0 ≡ get_or window i 0
unfolding placed is_written
others_kept base room window [] inside i h = refl
others_kept base room window (b ∷ bs) inside i h =
    let k = neither_holds (has b (base + i)) (is_written bs (base + i)) h in
    others_kept base room (patch window (b.load - base) b.bytes) bs inside.1 i k.1
    ∙ one_kept base window b i (inside_range base room b inside.0).0 k.0

-- every address inside a block holds that block's byte
pub bytes_placed : (base : ℕ) (window : List ℕ) (bs : List Block) → Disjoint bs → Within base (length window) bs → Each (Holds base (placed base window bs)) bs
unfolding placed
bytes_placed base window [] apart inside = tt
bytes_placed base window (b ∷ bs) apart inside =
    let then = patch window (b.load - base) b.bytes in
    let l = (inside_range base (length window) b inside.0).0 in (
      λ a h.
          let e : base + (a - base) ≡ a = omega (arith, has_range b a h) in
          others_kept base (length window) then bs inside.1 (a - base) (rw e (missed b a bs h apart.0)) ∙ one_holds base window b inside.0 a h,
      bytes_placed base then bs apart.1 (rw (length-patch window (b.load - base) b.bytes) inside.1),
    )

-- all of it, for blocks that lie apart and inside the window
pub loaded : (base : ℕ) (window : List ℕ) (bs : List Block) → Disjoint bs → Within base (length window) bs → Loaded base window (placed base window bs) bs
loaded base window bs apart inside =
    record {
      disjoint = apart;
      within = inside;
      bytes = bytes_placed base window bs apart inside;
      others = others_kept base (length window) window bs inside;
      long = length_placed base window bs;
      figure = figure_counts base (length window) bs apart inside;
    }
