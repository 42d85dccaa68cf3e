use Prim.Native.Nat.{◌+◌, ◌≤◌, ◌/◌}
use mathlib.Core.Path.{sym, ◌∙◌}
use native.Mathlib.Omega.{arith}
use lib.ListN.{length, drop, length-drop}
use lib.Seq.{get_or-drop}
use Rattle.fields.specs.Turning.{turned, turned_place}
use Rattle.fields.proofs.TurningLaws.{length-turned, get_or-turned}
use Rattle.compare.proofs.EqualLaws.{equal_none, equal_next}
use Rattle.compare.proofs.equal.equal_singly.Goals as goal

pub loop-i-init : goal.loop-i-init
loop-i-init c = sym equal_none

pub bounds-area-turned_place : goal.bounds-area-turned_place
unfolding turned_place
bounds-area-turned_place c = omega arith

pub loop-i-preserved : goal.loop-i-preserved
loop-i-preserved c =
    let l = c.loop-i in
    let a = c.args in
    let area = a.area.now in
    let there = drop a.from (turned area) in
    let few : l.i + 1 ≤ length there = rw (length-drop a.from (turned area), length-turned area) (omega arith) in
    let byte = get_or-drop a.from (turned area) l.i 0 ∙ get_or-turned (length area / 4) area (a.from + l.i) (omega arith) (omega arith) in
    rw (c.turned_place.ensures, ← byte, l.invariant) (sym (equal_next l.i a.x.now there (omega arith) (omega arith)))
