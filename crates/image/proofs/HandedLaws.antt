-- An image that was read, as it is handed on: what the reader answers is what the image means, and what may be relied on of one that is not refused.
use Prim.Native.Nat.{ℕ, ◌<◌, ◌≤◌}
use mathlib.Core.Path.{◌≡◌, ap, sym, ◌∙◌}
use mathlib.Core.List.{List}
use Rattle.std.specs.Prelude.{Result, Ok, Err, IfOk}
use Rattle.fields.specs.Rules.{refused, done}
use Rattle.fields.specs.Options.{plain, in_order}
use Rattle.fields.specs.Refusal.{told_by}
use Rattle.fields.specs.declared.refusal.Refusal.{Refusal}
use Rattle.image.specs.declared.blocks.Image.{Image}
use Rattle.image.specs.Order.{undone}
use Rattle.image.specs.Reading.{read_image, reading_in, reading_of}
use Rattle.image.specs.Asking.{where_is, asking, asking_in, told_of, asked_of}
use Rattle.image.specs.Walking.{Accepted}
use Rattle.image.specs.Handed.{undone_in, blocks_of_image, source_of_image, contents_in}
use Rattle.image.proofs.AskingLaws.{no_block, asked}
use Rattle.image.proofs.ReadLaws.{reading_refused, accepted}
use Rattle.image.proofs.InOrderLaws.{reading_passed, order_told, asking_passed}

-- the image has these bytes, in this order
abbrev pub Reads : ℕ → List ℕ → Image → Type 0
Reads order s image = (image.bytes.now ≡ s) × (image.order ≡ order)

module _ (order : ℕ) (s : List ℕ) where
  pub undone_is : (image : Image) → Reads order s image → undone_in image ≡ undone order s
  undone_is image same = λ i. undone (same.1 i) (same.0 i)

  module _ (image : Image) (e : done (contents_in image) ≡ reading_of (read_image (undone order s))) (same : Reads order s image) where
    pub image_accepted : Accepted (undone_in image) image.entry image.blocks
    image_accepted = rw (undone_is image same) (accepted (undone order s) image.entry image.blocks (sym e))

    pub image_reads : read_image (undone order s) ≡ done (source_of_image image)
    image_reads = ap read_image (sym (undone_is image same)) ∙ image_accepted.read

  pub image_refused : {code index : ℕ} → refused code index ≡ reading_of (read_image (undone order s)) → read_image (undone order s) ≡ refused code index
  image_refused e = reading_refused (read_image (undone order s)) (sym e)

  pub read_tells : (r : Result Image Refusal) → told_by contents_in r ≡ reading_of (read_image (undone order s)) → IfOk r (Reads order s) → told_by source_of_image r ≡ read_image (undone order s)
  read_tells (Ok image) e same = sym (image_reads image e same)
  read_tells (Err r) e same = sym (image_refused e)

  -- The same of an order that anybody may tell.
  module _ (image : Image) (e : done (contents_in image) ≡ reading_of (reading_in (in_order order plain) s)) where
    pub told_in_order : done (contents_in image) ≡ reading_of (read_image (undone order s))
    told_in_order = rw (reading_passed order s (order_told order s e)) at e

    pub image_reads_in : Reads order s image → reading_in (in_order order plain) s ≡ done (source_of_image image)
    image_reads_in same = reading_passed order s (order_told order s e) ∙ image_reads image told_in_order same

    -- asking for a block of it: its count decides, or the block is told
    module _ (same : Reads order s image) (k : ℕ) where
      plainly : asking_in (in_order order plain) s k ≡ asking (undone order s) k
      plainly = asking_passed order s k (order_told order s e)

      known : Accepted (undone order s) image.entry image.blocks
      known = rw (undone_is image same) at (image_accepted image told_in_order same)

      pub block_lacks : image.blocks ≤ k → refused 30 0 ≡ asked_of (asking_in (in_order order plain) s k)
      block_lacks h = rw plainly (no_block (undone order s) k image.entry image.blocks known h)

      pub block_found : k < image.blocks → done (told_of (where_is (blocks_of_image image) k)) ≡ asked_of (asking_in (in_order order plain) s k)
      block_found h = rw (undone_is image same, plainly) (asked (undone order s) k image.entry image.blocks known h)

  pub read_in_tells : (r : Result Image Refusal) → told_by contents_in r ≡ reading_of (reading_in (in_order order plain) s) → IfOk r (Reads order s) → told_by source_of_image r ≡ reading_in (in_order order plain) s
  read_in_tells (Ok image) e same = sym (image_reads_in image e same)
  read_in_tells (Err r) e same = sym (reading_refused (reading_in (in_order order plain) s) (sym e))
