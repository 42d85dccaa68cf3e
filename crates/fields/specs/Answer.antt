-- What a caller learns of any call, as numbers.
use Rattle.std.specs.Prelude.{ℕ, List, replicate}
use Rattle.fields.specs.Rules.{Outcome, refused, done}

-- the code, the index, and the figures that are named for the call, in the order of their naming
pub record Answer : Type 0 where
  pub code : ℕ
  pub index : ℕ
  pub figures : List ℕ

-- the numbers of a call that has n figures: of a refusal its code and index, and each figure 0; else code 0, index 0, and the figures of what came of it
unfoldable pub answer_of : {A : Type 0} → ℕ → (A → List ℕ) → Outcome A → Answer
answer_of n figures (refused code index) = record { code = code; index = index; figures = replicate n 0 }
answer_of n figures (done a) = record { code = 0; index = 0; figures = figures a }
