-- The library's sum is the number that the reversed bytes spell.
use native.Mathlib.Omega.{arith}
use mathlib.Core.Path.{◌∙◌}
use Rattle.fields.proofs.TurnedNumberLaws.{swapped}
use Rattle.fields.proofs.turning.turned_number.Goals as goal

pub returns : goal.returns
returns c = c.swap_bytes.ensures ∙ swapped c.args.n (omega arith)
