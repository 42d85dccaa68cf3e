-- The parts of an image: each is the one block that is read at its cursor. Of an image in an order, s is what it stands for.
use Prim.Native.Nat.{ℕ, ◌+◌, ◌-◌, ◌≤◌}
use mathlib.Core.Bool.{Bool, true, false, not}
use mathlib.Core.Path.{◌≡◌, sym, ◌∙◌}
use mathlib.Core.List.{List}
use Rattle.std.proofs.lemmas.Bool.{not-true, not-false}
use Rattle.fields.specs.Rules.{refused, unless, ruling_of, Silent}
use Rattle.fields.specs.Patch.{patch}
use Rattle.fields.specs.Program.{Numbered, blocks_of_parts}
use Rattle.image.specs.Walking.{block_at, Tells}
use Rattle.image.specs.declared.walking.BlockHeader.{BlockHeader}
use Rattle.image.proofs.PartLaws.{image_part, part_is}
use Rattle.loader.specs.Placing.{is_range_outside, is_outside, placed, sizes_of}
use Rattle.loader.specs.Loading.{outside_rules}
use Rattle.loader.proofs.AddressLaws.{within_window}
use Rattle.loader.proofs.PlacingLaws.{placed_one, sizes_one}

-- In the words of code that has read the block at a cursor c into b.
module _ {s : List ℕ} {c : _} {b : BlockHeader} (told : Tells s c b) where
  abbrev part : List Numbered
  part = image_part s c.number

  outside_is : (base room : ℕ) → is_outside base room (block_at s c.number) ≡ is_range_outside base room b.part.load.0 b.part.size
  unfolding is_outside
  outside_is base room = rw (told.load, told.size)

  module _ (base room : ℕ) {inside : Bool} (o : inside ≡ not (is_range_outside base room b.part.load.0 b.part.size)) where
    pub block_fits : inside ≡ true → Silent (outside_rules base room part)
    unfolding outside_rules
    block_fits e = rw (part_is s c.number) (outside_is base room ∙ not-true _ (sym o ∙ e), tt)

    pub block_fails : inside ≡ false → refused 29 c.number ≡ ruling_of (outside_rules base room part)
    unfolding outside_rules unless
    block_fails e = rw (part_is s c.number) (rw (outside_is base room ∙ not-false _ (sym o ∙ e)))

  pub block_inside : (base room : ℕ) → Silent (outside_rules base room part) → (base ≤ b.part.load.0) × (b.part.load.0 + b.part.size ≤ base + room)
  unfolding outside_rules
  block_inside base room h = within_window base room b.part.load.0 b.part.size (sym (outside_is base room) ∙ (rw (part_is s c.number) at h).0)

  pub block_counts : b.part.size ≡ sizes_of (blocks_of_parts part)
  block_counts = rw (part_is s c.number) (told.size ∙ sym (sizes_one (block_at s c.number)))

  pub block_places : (base : ℕ) (w : List ℕ) {bytes : List ℕ} → (block_at s c.number).bytes ≡ bytes → patch w (b.part.load.0 - base) bytes ≡ placed base w (blocks_of_parts part)
  block_places base w e = rw (part_is s c.number, told.load, ← e) (sym (placed_one base w (block_at s c.number)))
