-- What stands at a place of an image: a whole block, or the end flag. Nothing else of the image is looked at, so it need not be one that can be read.
use Rattle.std.specs.Prelude.{ℕ, ◌+◌, Bool, true, false, not, ◌&&◌, List, [], ◌∷◌, length, drop, ltb, eqb}
use Rattle.fields.specs.Rules.{Rule, rule, Outcome, unless, rules_first}
use Rattle.fields.specs.Options.{Options, option_rules}
use Rattle.image.specs.Layout.{span_of}
use Rattle.image.specs.Order.{undone_from}
use Rattle.fields.specs.Program.{no_block}
use Rattle.image.specs.Reading.{size_here, block_here}
use Rattle.image.specs.Asking.{Whereabouts}

-- a block begins where `rest` does, and is not all there
abbrev pub is_cut : List ℕ → Bool
is_cut rest = not (eqb (size_here rest) 0) && ltb (length rest) (span_of (size_here rest))

-- rule 20 of the image, and rule 21 of what begins at the place: its size field, and the rest of a block where that is not the end flag
abbrev pub place_rules : List ℕ → ℕ → List Rule
place_rules s place =
    rule (ltb 16777216 (length s)) 20 0
    ∷ rule (ltb (length (drop place s)) 4) 21 0
    ∷ rule (is_cut (drop place s)) 21 0
    ∷ []

-- the end flag is told as no block: it has no bytes, and they stand nowhere
unfoldable pub stands_at : List ℕ → ℕ → Whereabouts
stands_at s place =
    elim (eqb (size_here (drop place s)) 0) [
      | true ↦ record { block = no_block; raw = 0 }
      | false ↦ record { block = block_here (drop place s); raw = place + 12 }
    ]

unfoldable pub standing : List ℕ → ℕ → Outcome Whereabouts
standing s place = unless (place_rules s place) (stands_at s place)

-- of an image in the order that is told: what stands from the place on is undone first
unfoldable pub standing_in : Options → List ℕ → ℕ → Outcome Whereabouts
standing_in o s place = rules_first (option_rules o) (standing (undone_from o.order place s) place)
