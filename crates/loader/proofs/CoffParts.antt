-- The parts of a COFF file: one for each kept section, none for any other.
use Prim.Native.Nat.{ℕ, ◌+◌, ◌-◌, ◌<◌, ◌≤◌}
use mathlib.Core.Path.{◌≡◌, sym, ◌∙◌}
use mathlib.Core.Bool.{Bool, true, false, not}
use mathlib.Core.List.{List, []}
use mathlib.Core.Logic.{⊎_elim}
use native.Mathlib.Omega.{arith}
use lib.ListN.{length, take, drop}
use Rattle.std.proofs.lemmas.Bool.{not-true, not-false}
use Rattle.fields.specs.Rules.{refused, unless, ruling_of, Silent}
use Rattle.fields.specs.Patch.{patch}
use Rattle.fields.specs.Program.{Block, blocks_of_parts}
use Rattle.coff.specs.declared.Sections.{Sections}
use Rattle.coff.specs.Parts.{part_at, ReadOf, TellsKept}
use Rattle.coff.proofs.PartLaws.{length_piece, part_cases}
use Rattle.loader.specs.Placing.{is_range_outside, is_outside, placed, sizes_of}
use Rattle.loader.specs.Loading.{outside_rules}
use Rattle.loader.proofs.AddressLaws.{within_window}
use Rattle.loader.proofs.PlacingLaws.{placed_one, placed_none, sizes_one, sizes_none, outside_none}

-- A kept section is one block, as long as it is told: whether that is inside a window.
module _ {f : List ℕ} {s : Sections} {i size load run raw : ℕ} (t : TellsKept f s i size load run raw) where
  abbrev block : Block
  block = record { load = load; run = run; bytes = take size (drop raw f) }

  long : length (take size (drop raw f)) ≡ size
  long = length_piece f raw size t.within

  outside_is : (base room : ℕ) → is_outside base room block ≡ is_range_outside base room load size
  unfolding is_outside
  outside_is base room = rw long

  module _ (base room : ℕ) {inside : Bool} (o : inside ≡ not (is_range_outside base room load size)) where
    pub kept_fits : inside ≡ true → Silent (outside_rules base room (part_at f s i))
    unfolding outside_rules
    kept_fits e = rw t.part (outside_is base room ∙ not-true _ (sym o ∙ e), tt)

    pub kept_fails : inside ≡ false → refused 29 i ≡ ruling_of (outside_rules base room (part_at f s i))
    unfolding outside_rules unless
    kept_fails e = rw t.part (rw (outside_is base room ∙ not-false _ (sym o ∙ e)))

  -- what fitting says of its addresses
  pub kept_inside : (base room : ℕ) → Silent (outside_rules base room (part_at f s i)) → (base ≤ load) × (load + size ≤ base + room)
  unfolding outside_rules
  kept_inside base room h =
      within_window base room load size (sym (outside_is base room) ∙ (rw t.part at h).0)

-- What a section's part asks for and places: one that is left nothing.
module _ (f : List ℕ) (s : Sections) (i : ℕ) where
  pub left_fits : part_at f s i ≡ [] → (base room : ℕ) → Silent (outside_rules base room (part_at f s i))
  left_fits left base room = rw left (outside_none base room)

  pub left_places : part_at f s i ≡ [] → (base : ℕ) (w : List ℕ) → (0 ≡ sizes_of (blocks_of_parts (part_at f s i))) × (w ≡ placed base w (blocks_of_parts (part_at f s i)))
  left_places left base w = rw left (sym sizes_none, sym (placed_none base w))

  pub kept_places : (size load run raw : ℕ) → TellsKept f s i size load run raw → (base : ℕ) (w : List ℕ) → (size ≡ sizes_of (blocks_of_parts (part_at f s i))) × (patch w (load - base) (take size (drop raw f)) ≡ placed base w (blocks_of_parts (part_at f s i)))
  kept_places size load run raw t base w =
      rw t.part (sym (sizes_one (block t) ∙ long t), sym (placed_one base w (block t)))

-- no part is longer than the file
pub part_small : (f : List ℕ) (s : Sections) (i : ℕ) → ReadOf f s → i < s.count → sizes_of (blocks_of_parts (part_at f s i)) ≤ 16777216
part_small f s i ok h =
    ⊎_elim
    (λ left. rw left (omega (arith, sizes_none)))
    (λ p. rw p.is (omega (arith, sizes_one p.block, p.long, p.short, ok.short)))
    (part_cases f s i ok h)
