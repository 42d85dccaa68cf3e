-- What the options' own rules say before a call: they refuse it, or leave its outcome as it is; and where nothing is asked for they never refuse.
use mathlib.Core.Path.{◌≡◌, refl}
use mathlib.Core.Bool.{true, false}
use Rattle.fields.specs.Rules.{Outcome, refused, unless, rules_first}
use Rattle.fields.specs.Options.{Options, plain, any_is_no_pattern, are_refused, is_no_order, option_rules}
use Rattle.fields.proofs.RuleLaws.{first_silent, first_refused}

module _ {A : Type 0} (o : Options) (out : Outcome A) where
  pub options_refuse : are_refused o.patterns ≡ true → rules_first (option_rules o) out ≡ refused 17 0
  unfolding unless
  options_refuse h = first_refused (option_rules o) out (rw h)

  pub order_refused : are_refused o.patterns ≡ false → is_no_order o.order ≡ true → rules_first (option_rules o) out ≡ refused 33 0
  unfolding unless
  order_refused h k = first_refused (option_rules o) out (rw (h, k))

  pub options_pass : are_refused o.patterns ≡ false → is_no_order o.order ≡ false → rules_first (option_rules o) out ≡ out
  options_pass h k = first_silent (option_rules o) out (h, (k, tt))

pub plain_passes : are_refused plain.patterns ≡ false
unfolding are_refused any_is_no_pattern
plain_passes = refl

pub plain_order_passes : is_no_order plain.order ≡ false
unfolding is_no_order
plain_order_passes = refl
