-- The order that is asked for makes no difference to what a COFF file means, and a row of patterns alone asks for none that is refused.
use Prim.Native.Nat.{ℕ}
use mathlib.Core.Path.{◌≡◌, refl}
use mathlib.Core.Bool.{false}
use mathlib.Core.List.{List}
use Rattle.fields.specs.Options.{Options, in_order, is_no_order}
use Rattle.patterns.specs.Row.{options_of}
use Rattle.coff.specs.Kept.{keeps}
use Rattle.coff.specs.Refusals.{lacks_name, coff_rules}
use Rattle.coff.specs.Reading.{coff_source, read_coff}

pub read_in_order : (order : ℕ) (o : Options) (f : List ℕ) → read_coff (in_order order o) f ≡ read_coff o f
unfolding read_coff coff_rules coff_source keeps lacks_name
read_in_order order o f = refl

pub row_order_passes : (row : List ℕ) → is_no_order (options_of row).order ≡ false
unfolding is_no_order options_of
row_order_passes row = refl
