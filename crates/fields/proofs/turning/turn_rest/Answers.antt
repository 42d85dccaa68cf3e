use Prim.Native.Nat.{◌+◌, ◌*◌, ◌-◌}
use mathlib.Core.Path.{◌∙◌}
use native.Mathlib.Omega.{arith}
use Rattle.fields.proofs.NumberLaws.{bytes_of}
use Rattle.fields.proofs.TurnedNumberLaws.{le32-turned, turned_field, turned_none, turned_on}
use Rattle.fields.proofs.turning.turn_rest.Goals as goal

pub loop-i-init : goal.loop-i-init
loop-i-init c =
    let a = c.args in
    turned_none a.to.now a.from.now (4 * a.first) (4 * (a.first - a.first)) (omega arith)

pub loop-i-preserved : goal.loop-i-preserved
loop-i-preserved c =
    let a = c.args in
    let s = a.from.now in
    let i = c.loop-i.i in
    let word = turned_field s (4 * i) (bytes_of s c.type_inv.from) (omega arith) in
    c.put_u32.ensures
    ∙ rw (c.turned_number.ensures, c.u32_at.ensures, le32-turned, word, c.loop-i.invariant)
    (turned_on a.to.now s (4 * a.first) (i - a.first) 4 (4 * i) (4 * (i + 1 - a.first)) (omega arith) (omega arith) (omega arith))
