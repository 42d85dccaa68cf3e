-- The order says whether the area stands reversed; where it does not, its bytes are compared as they stand.
use Prim.Native.Nat.{◌+◌, ◌-◌}
use mathlib.Core.Path.{◌≡◌, sym, ◌∙◌}
use native.Mathlib.Omega.{arith}
use lib.ListN.{length, drop, length-drop}
use lib.Seq.{length-take-le}
use Rattle.image.proofs.OrderLaws.{area_turns, area_stays}
use Rattle.compare.proofs.equal.equal_in.Goals as goal

pub returns-then-turns_data : goal.returns-then-turns_data
returns-then-turns_data c =
    let a = c.args in
    rw (← (area_turns a.order a.area.now (sym c.turns_data.ensures ∙ c.if-turns_data.true))) c.equal_turned.ensures

pub equal-requires : goal.equal-requires
equal-requires c =
    let a = c.args in
    let e : a.from + length a.x.now - a.from ≡ length a.x.now = omega arith in
    rw e (sym (length-take-le (length a.x.now) (drop a.from a.area.now) (rw length-drop (omega arith))))

pub returns : goal.returns
returns c =
    let a = c.args in
    let e : a.from + length a.x.now - a.from ≡ length a.x.now = omega arith in
    rw (← (area_stays a.order a.area.now (sym c.turns_data.ensures ∙ c.if-turns_data.false))) (rw e at c.equal.ensures)
