-- What a caller may ask for beyond the plain call, as one thing. A call asks its own rules before all others and hands it to the readers, and the writer spells an
-- image in its order. Nobody else makes anything of it.
use Rattle.std.specs.Prelude.{ℕ, Bool, false, ◌||◌, List, [], ◌∷◌, length, ltb}
use Rattle.fields.specs.Rules.{Rule, rule}

pub record Options : Type 0 where
  -- sections whose names one of these takes are left out
  pub patterns : List (List ℕ)
  -- how the bytes of the image stand that is read or written: 0 as paper 01 has them, 1 with its numbers reversed in each four, 2 with its raw data and padding, 3 with both
  pub order : ℕ

-- nothing is asked for: the calls of paper 01
abbrev pub plain : Options
plain = record { patterns = []; order = 0 }

-- the same besides, and an order
abbrev pub in_order : ℕ → Options → Options
in_order order o = record { patterns = o.patterns; order = order }

-- so many bytes are none of 1 to 64, which a pattern has
unfoldable pub is_no_length : ℕ → Bool
is_no_length size = ltb size 1 || ltb 64 size

unfoldable pub is_no_pattern : List ℕ → Bool
is_no_pattern p = is_no_length (length p)

unfoldable pub any_is_no_pattern : List (List ℕ) → Bool
any_is_no_pattern [] = false
any_is_no_pattern (p ∷ ps) = is_no_pattern p || any_is_no_pattern ps

-- there are more than 16, or some of them are none
unfoldable pub are_refused : List (List ℕ) → Bool
are_refused ps = ltb 16 (length ps) || any_is_no_pattern ps

-- it is none of 0 to 3
unfoldable pub is_no_order : ℕ → Bool
is_no_order order = ltb 3 order

-- of the options alone, before all other rules of a call
abbrev pub option_rules : Options → List Rule
option_rules o = rule (are_refused o.patterns) 17 0 ∷ rule (is_no_order o.order) 33 0 ∷ []
