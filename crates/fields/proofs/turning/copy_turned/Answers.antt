-- The rows and what is left behind them are all whole fours.
use Prim.Native.Nat.{ℕ, ◌*◌, ◌-◌, ◌/◌}
use mathlib.Core.Path.{ap, ◌∙◌}
use mathlib.Core.List.{List}
use native.Mathlib.Omega.{arith}
use lib.ListN.{length}
use Rattle.fields.specs.Patch.{patch}
use Rattle.fields.specs.Turning.{turned}
use Rattle.fields.proofs.TurnedNumberLaws.{turned_on, field_front}
use Rattle.fields.proofs.turning.copy_turned.Goals as goal

pub returns : goal.returns
returns c =
    let a = c.args in
    let s = a.from.now in
    let n = length s / 4 in
    let first = 32 * (n / 32) in
    let all = turned_on a.to.now s 0 first (4 * (n - first)) (4 * first) (4 * n) (omega arith) (omega arith) (omega arith) in
    c.turn_rest.ensures ∙ rw c.turn_rows.ensures all ∙ ap (λ (l : List ℕ). patch a.to.now 0 (turned l)) (field_front (4 * n) s)
