-- A file that is measured or loaded straight into memory, which takes no order, beside its image in an order.
use Prim.Native.Nat.{ℕ, ◌<◌, ◌≤◌}
use mathlib.Core.Path.{◌≡◌, refl, sym, ◌∙◌}
use mathlib.Core.Bool.{false}
use mathlib.Core.List.{List}
use lib.ListN.{length}
use Rattle.fields.specs.Number.{Bytes}
use Rattle.fields.specs.Rules.{refused, done}
use Rattle.fields.specs.Options.{Options, plain, in_order, is_no_order}
use Rattle.fields.specs.Program.{Program}
use Rattle.image.specs.Layout.{image_of, image_length}
use Rattle.image.specs.Order.{written}
use Rattle.image.specs.Converting.{converting, measuring}
use Rattle.loader.specs.Loading.{loading_image, loading_coff}
use Rattle.compare.specs.Checking.{checking}
use Rattle.demands.specs.Meaning.{EqualLoads}
use Rattle.demands.proofs.Converted.{check_same_loads, converted_loads}
use Rattle.demands.proofs.Measured.{measured_converts, measured_is_least}
use Rattle.demands.proofs.Orders.{orders_measure_alike, orders_load_file_alike}

order_0_passes : is_no_order 0 ≡ false
unfolding is_no_order
order_0_passes = refl

module _ (order : ℕ) (passes : is_no_order order ≡ false) (o : Options) (file : List ℕ) where
  -- Where the check says "same" in an order, the file loads as the image does in that order.
  pub check_same_loads_in : (image : List ℕ) (base : ℕ) (window : List ℕ) → Bytes file → Bytes image → checking (in_order order o) file image ≡ done tt → EqualLoads base window (loading_coff (in_order 0 o) file base (length window)) (loading_image (in_order order plain) image base (length window))
  check_same_loads_in image base window bytes bytes' says =
      rw (orders_load_file_alike 0 order order_0_passes passes o file base (length window)) (check_same_loads (in_order order o) file image base window bytes bytes' says)

  -- The image that a conversion makes in an order loads there as the file does.
  pub converted_loads_in : (room : ℕ) (p : Program) → Bytes file → converting (in_order order o) file room ≡ done p → (base : ℕ) (window : List ℕ) → EqualLoads base window (loading_coff (in_order 0 o) file base (length window)) (loading_image (in_order order plain) (written order (image_of p)) base (length window))
  converted_loads_in room p bytes made base window =
      rw (orders_load_file_alike 0 order order_0_passes passes o file base (length window)) (converted_loads (in_order order o) file room p bytes made base window)

  -- As much room as was measured is enough in every order, and less is rule 15.
  module _ (p : Program) (measured : measuring (in_order 0 o) file ≡ done p) where
    measured_here : measuring (in_order order o) file ≡ done p
    measured_here = sym (orders_measure_alike 0 order order_0_passes passes o file) ∙ measured

    pub measured_converts_in : (room : ℕ) → image_length p ≤ room → converting (in_order order o) file room ≡ done p
    measured_converts_in room h = measured_converts (in_order order o) file p measured_here room h

    pub measured_is_least_in : (room : ℕ) → room < image_length p → converting (in_order order o) file room ≡ refused 15 0
    measured_is_least_in room h = measured_is_least (in_order order o) file p measured_here room h
