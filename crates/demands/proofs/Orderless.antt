-- Who asks for no order gets what stood before there were any, with patterns or without: rule 17 alone is asked first, and images are read and written as paper 01 has them.
use Prim.Native.Nat.{ℕ}
use mathlib.Core.Path.{◌≡◌, refl, ap, ◌∙◌}
use mathlib.Core.List.{List, [], ◌∷◌}
use Rattle.fields.specs.Patch.{patch}
use Rattle.fields.specs.Rules.{Rule, rule, Outcome, done, unless, and_then, rules_first}
use Rattle.fields.specs.Options.{Options, in_order, are_refused, is_no_order, option_rules}
use Rattle.fields.specs.Program.{Program}
use Rattle.patterns.specs.Row.{options_of}
use Rattle.coff.specs.Reading.{read_coff}
use Rattle.image.specs.Layout.{image_of}
use Rattle.image.specs.Order.{undone}
use Rattle.image.specs.Reading.{read_image}
use Rattle.image.specs.Converting.{writing, sizing, converting, measuring, output_after}
use Rattle.image.proofs.OrderLaws.{undone_plain, written_plain}
use Rattle.loader.specs.Loading.{loading, loading_coff}
use Rattle.compare.specs.Checking.{comparing, checking}

-- a row of patterns alone asks for no order, and order 0 beside it for nothing more
pub row_asks_no_order : (row : List ℕ) → (options_of row).order ≡ 0
unfolding options_of
row_asks_no_order row = refl

pub order_0_beside_row : (row : List ℕ) → in_order 0 (options_of row) ≡ options_of row
unfolding options_of
order_0_beside_row row = refl

-- the rule of the options before there were orders
abbrev pub pattern_rules : Options → List Rule
pattern_rules o = rule (are_refused o.patterns) 17 0 ∷ []

module _ (o : Options) (none : o.order ≡ 0) where
  rules_before : {A : Type 0} (out : Outcome A) → rules_first (option_rules o) out ≡ rules_first (pattern_rules o) out
  unfolding rules_first and_then unless is_no_order
  rules_before out = rw none

  pub orderless_converts : (f : List ℕ) (room : ℕ) → converting o f room ≡ rules_first (pattern_rules o) (writing (read_coff o f) room)
  unfolding converting
  orderless_converts f room = rules_before (writing (read_coff o f) room)

  pub orderless_writes : (p : Program) (out : List ℕ) → output_after o.order (done p) out ≡ patch out 0 (image_of p)
  unfolding output_after
  orderless_writes p out = rw (none, written_plain)

  pub orderless_measures : (f : List ℕ) → measuring o f ≡ rules_first (pattern_rules o) (sizing (read_coff o f))
  unfolding measuring
  orderless_measures f = rules_before (sizing (read_coff o f))

  pub orderless_loads : (f : List ℕ) (base room : ℕ) → loading_coff o f base room ≡ rules_first (pattern_rules o) (loading (read_coff o f) base room)
  unfolding loading_coff
  orderless_loads f base room = rules_before (loading (read_coff o f) base room)

  pub orderless_checks : (f image : List ℕ) → checking o f image ≡ rules_first (pattern_rules o) (comparing (read_coff o f) (read_image image))
  unfolding checking
  orderless_checks f image =
      let same : undone o.order image ≡ image = ap (λ (order : ℕ). undone order image) none ∙ undone_plain image in
      rules_before (comparing (read_coff o f) (read_image (undone o.order image)))
      ∙ ap (λ (i : List ℕ). rules_first (pattern_rules o) (comparing (read_coff o f) (read_image i))) same
