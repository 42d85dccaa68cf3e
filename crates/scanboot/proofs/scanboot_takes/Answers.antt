-- The answer is the number of what the matcher says.
use mathlib.Core.Path.{ap, ◌∙◌}
use mathlib.Core.Bool.{Bool, cond}
use Prim.Native.Nat.{ℕ}
use Rattle.scanboot.specs.Taken.{taken_number}
use Rattle.scanboot.proofs.scanboot_takes.Goals as goal

pub returns : goal.returns
unfolding taken_number
returns c = c.taken.ensures ∙ ap (λ (t : Bool). cond {A = ℕ} t 1 0) c.takes_alone.ensures
