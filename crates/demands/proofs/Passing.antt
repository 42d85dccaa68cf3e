-- Options that pass: each call is then what it is without rules of its own, and one on an image speaks of the image after undoing.
use Prim.Native.Nat.{ℕ, zero, suc}
use mathlib.Core.Path.{◌≡◌, refl, ◌∙◌}
use mathlib.Core.Bool.{Bool, true, false}
use mathlib.Core.List.{List}
use native.Mathlib.Omega.{arith}
use borrow.Author.Tests.{ltb-false}
use Rattle.fields.specs.Number.{number, field_at}
use Rattle.fields.specs.Turning.{turned, turned_if}
use Rattle.fields.specs.Rules.{done}
use Rattle.fields.specs.Options.{Options, plain, in_order, is_no_order, option_rules}
use Rattle.fields.specs.Program.{Source}
use Rattle.fields.proofs.RuleLaws.{first_silent, first_done}
use Rattle.fields.proofs.OptionLaws.{plain_passes, plain_order_passes}
use Rattle.coff.specs.Reading.{read_coff}
use Rattle.image.specs.Order.{turns_numbers, numbers_in, number_in, undone, written, undone_from}
use Rattle.image.specs.Reading.{read_image, reading_in}
use Rattle.image.specs.Asking.{asking, asking_in}
use Rattle.image.specs.Standing.{standing, standing_in}
use Rattle.image.proofs.OrderLaws.{zero_in, rewritten_end, undone_written}
use Rattle.loader.specs.Loading.{loading, loading_image, loading_coff}
use Rattle.compare.specs.Checking.{comparing, checking}
use Rattle.entries.specs.Bench.{none}
use Rattle.demands.specs.Spared.{Passes}

-- an order from 0 to 3 passes alone ..
pub order_alone : (order : ℕ) → is_no_order order ≡ false → Passes (in_order order plain)
order_alone order h = (plain_passes, (h, tt))

-- .. and so does that of options that pass ..
pub order_of : (o : Options) → Passes o → Passes (in_order o.order plain)
order_of o passes = order_alone o.order passes.1.0

-- .. and who asks for nothing
pub nothing_passes : Passes plain
nothing_passes = order_alone 0 plain_order_passes

-- what holds in each of the four orders holds in all that pass
pub in_each_order : (P : ℕ → Type 0) → P 0 → P 1 → P 2 → P 3 → (order : ℕ) → is_no_order order ≡ false → P order
unfolding is_no_order
in_each_order P a b c d zero h = a
in_each_order P a b c d (suc zero) h = b
in_each_order P a b c d (suc (suc zero)) h = c
in_each_order P a b c d (suc (suc (suc zero))) h = d
in_each_order P a b c d (suc (suc (suc (suc order)))) h = absurd (omega (arith, ltb-false 3 (suc (suc (suc (suc order)))) h))

module _ (o : Options) (passes : Passes o) where
  pub file_loads : (file : List ℕ) (base room : ℕ) → loading_coff o file base room ≡ loading (read_coff o file) base room
  unfolding loading_coff
  file_loads file base room = first_silent (option_rules o) (loading (read_coff o file) base room) passes

  module _ (image : List ℕ) where
    abbrev there : List ℕ
    there = undone o.order image

    pub image_reads : reading_in o image ≡ read_image (undone o.order image)
    unfolding reading_in
    image_reads = first_silent (option_rules o) (read_image there) passes

    pub image_asked : (k : ℕ) → asking_in o image k ≡ asking (undone o.order image) k
    unfolding asking_in
    image_asked k = first_silent (option_rules o) (asking there k) passes

    pub image_stands : (place : ℕ) → standing_in o image place ≡ standing (undone_from o.order place image) place
    unfolding standing_in
    image_stands place = first_silent (option_rules o) (standing (undone_from o.order place image) place) passes

    pub image_loads : (base room : ℕ) → loading_image o image base room ≡ loading (read_image (undone o.order image)) base room
    unfolding loading_image
    image_loads base room = first_silent (option_rules o) (loading (read_image there) base room) passes

    pub image_checks : (file : List ℕ) → checking o file image ≡ comparing (read_coff o file) (read_image (undone o.order image))
    unfolding checking
    image_checks file = first_silent (option_rules o) (comparing (read_coff o file) (read_image there)) passes

  -- of an image that is written in their order, and so stands for the image itself
  module _ (image : List ℕ) where
    pub written_reads : reading_in o (written o.order image) ≡ read_image image
    written_reads = image_reads (written o.order image) ∙ rw undone_written

    pub written_loads : (base room : ℕ) → loading_image o (written o.order image) base room ≡ loading (read_image image) base room
    written_loads base room = image_loads (written o.order image) base room ∙ rw undone_written

-- where an image was read, the options passed, and the image undone was read
pub read_passes : (o : Options) (image : List ℕ) (s : Source) → reading_in o image ≡ done s → Passes o × (read_image (undone o.order image) ≡ done s)
unfolding reading_in
read_passes o image s h = first_done (option_rules o) (read_image (undone o.order image)) h

-- The image without a block and with the entry point 0 is the same in every order.
pub empty_undone : (order : ℕ) → undone order (none 8) ≡ none 8
unfolding undone numbers_in
empty_undone order = rw (entry (turns_numbers order), rewritten_end order order 4096 (none 4) flag)
  where
    entry : (asked : Bool) → turned_if asked (none 4) ≡ none 4
    entry true = unfold turned_if in unfold turned in refl
    entry false = unfold turned_if in refl

    flag : number_in order (none 4) 0 ≡ 0
    flag = zero_in order 0 (none 4) 0 (unfold number_in in unfold numbers_in in unfold turns_numbers in unfold turned_if in unfold field_at in unfold number in refl)
