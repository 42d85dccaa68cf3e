-- A caller goes through an image: asks what stands behind the entry point, goes on behind each block that it is told of, and ends where it is told of none.
use Rattle.std.specs.Prelude.{ℕ, zero, suc, ◌+◌, ◌≤◌, true, false, List, [], ◌∷◌, length, eqb}
use Rattle.fields.specs.Options.{Options}
use Rattle.fields.specs.Answer.{Answer}
use Rattle.fields.specs.Program.{Block}
use Rattle.image.specs.Layout.{rounded_up}
use Rattle.demands.specs.Promises.{GivesBlockAt, GivesAddressesAt}
use Rattle.demands.specs.Rebuilding.{figure, block_by}

-- where the next block begins, by the size and the offset of one: as scanboot_next_place of include/scanboot.h takes it
unfoldable pub next_place : Answer → ℕ
next_place asked = figure asked 3 + rounded_up (figure asked 0)

-- the blocks that were met, in order, and the answer that was the last
pub record Gone : Type 0 where
  pub met : List Block
  pub last : Answer

-- from a place on, with what is answered at each, and the bytes of the image after undoing; `turns` only bounds the recursion
unfoldable pub going : ℕ → List ℕ → (ℕ → Answer) → ℕ → Gone
going zero image asked place = record { met = []; last = asked place }
going (suc turns) image asked place =
    elim (eqb (figure (asked place) 0) 0) [
      | true ↦ record { met = []; last = asked place }
      | false ↦ let more = going turns image asked (next_place (asked place)) in record { met = block_by image (asked place) ∷ more.met; last = more.last }
    ]

-- the answer at the end flag: no refusal, and no size
abbrev pub end_flag : Answer
end_flag = record { code = 0; index = 0; figures = 0 ∷ 0 ∷ 0 ∷ 0 ∷ [] }

-- a caller's two numbers of each place of an image
abbrev pub AskedAt : Options → List ℕ → (ℕ → ℕ) → (ℕ → ℕ) → Type 0
AskedAt o image block addresses =
    (place : ℕ) → place ≤ length image → GivesBlockAt o image place (block place) × GivesAddressesAt o image place (addresses place)
