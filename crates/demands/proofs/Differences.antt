-- One thing changed in A's image, and the check tells: it computes on each.
use Prim.Native.Nat.{ℕ}
use mathlib.Core.Path.{◌≡◌, refl, ◌∙◌}
use mathlib.Core.Bool.{false}
use mathlib.Core.List.{List, [], ◌∷◌, map}
use lib.ListN.{drop}
use Rattle.fields.specs.Rules.{Outcome, refused, done}
use Rattle.fields.specs.Options.{Options, plain}
use Rattle.patterns.specs.Taking.{takes_any}
use Rattle.image.specs.Order.{written}
use Rattle.compare.specs.Checking.{checking}
use Rattle.entries.specs.Bench.{result_of, none, file_a, image_with, image_a}
use Rattle.demands.specs.Spared.{Passes}
use Rattle.demands.proofs.LeftOut.{spared_checks_written}
use Rattle.demands.proofs.SparedFiles.{spares_A}

-- an image of one block that loads at 400h or a little above and runs at 80000000h or a little above
abbrev block_of : ℕ → ℕ → ℕ → List ℕ → List ℕ
block_of size loadLow runLow bytes = image_with (size ∷ 0 ∷ 0 ∷ 0 ∷ loadLow ∷ 4 ∷ 0 ∷ 0 ∷ runLow ∷ 0 ∷ 0 ∷ 0x80 ∷ bytes)

-- an image, and what the check of it against A says
pub record Case : Type 0 where
  pub image : List ℕ
  pub says : Outcome (Unit {0})

abbrev one : List ℕ → Outcome (Unit {0}) → Case
one image says = record { image = image; says = says }

abbrev pub cases : List Case
cases =
    -- nothing changed
    one image_a (done tt)
    -- a byte missing, at the end and in front; a byte added at the end
    ∷ one (block_of 4 0 0 (0x11 ∷ 0x22 ∷ 0x33 ∷ 0x44 ∷ [])) (refused 41 0)
    ∷ one (block_of 4 1 1 (0x22 ∷ 0x33 ∷ 0x44 ∷ 0x55 ∷ [])) (refused 41 0)
    ∷ one (block_of 6 0 0 (0x11 ∷ 0x22 ∷ 0x33 ∷ 0x44 ∷ 0x55 ∷ 0x66 ∷ 0 ∷ 0 ∷ [])) (refused 41 0)
    -- the block moved by one address, and two of its bytes changed over
    ∷ one (block_of 5 1 0 (0x11 ∷ 0x22 ∷ 0x33 ∷ 0x44 ∷ 0x55 ∷ 0 ∷ 0 ∷ 0 ∷ [])) (refused 41 0)
    ∷ one (block_of 5 0 0 (0x22 ∷ 0x11 ∷ 0x33 ∷ 0x44 ∷ 0x55 ∷ 0 ∷ 0 ∷ 0 ∷ [])) (refused 41 0)
    -- another run address; another entry point; no block at all
    ∷ one (block_of 5 0 1 (0x11 ∷ 0x22 ∷ 0x33 ∷ 0x44 ∷ 0x55 ∷ 0 ∷ 0 ∷ 0 ∷ [])) (refused 41 0)
    ∷ one (1 ∷ drop 1 image_a) (refused 40 0)
    ∷ one (none 8) (refused 41 0)
    ∷ []

plain_differences : map (λ (c : Case). checking plain file_a c.image) cases ≡ map (λ (c : Case). c.says) cases
unfolding result_of
plain_differences = refl

-- with any options that pass and do not take the empty name, which A's section has, each image being written in their order
pub differences : (o : Options) → Passes o → takes_any o.patterns [] ≡ false → map (λ (c : Case). checking o file_a (written o.order c.image)) cases ≡ map (λ (c : Case). c.says) cases
differences o passes spares =
    let same : (image : List ℕ) → checking o file_a (written o.order image) ≡ checking plain file_a image = spared_checks_written o file_a (spares_A o passes spares) in
    (λ i. map (λ (c : Case). same c.image i) cases) ∙ plain_differences
