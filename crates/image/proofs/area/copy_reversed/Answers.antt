use Prim.Native.Nat.{◌*◌, ◌/◌, ◌<◌}
use mathlib.Core.Path.{◌≡◌, refl, ◌∙◌}
use native.Mathlib.Omega.{arith}
use lib.ListN.{length, take, drop}
use Rattle.fields.specs.Turning.{turned}
use Rattle.fields.proofs.TurningLaws.{length-turned}
use Rattle.image.specs.Layout.{rounded_up}
use Rattle.image.proofs.AreaAtLaws.{turned_low, turned_byte, length_there, fours_first, last_none, last_more, last_all}
use Rattle.image.proofs.area.copy_reversed.Goals.{After-turned_place}
use Rattle.image.proofs.area.copy_reversed.Goals as goal

pub loop-i-init : goal.loop-i-init
loop-i-init c =
    let a = c.args in
    last_none c.copy_turned.new.to (turned (take (rounded_up a.size) (drop a.raw a.s.now))) (a.size / 4 * 4)

low : (k : After-turned_place) → k.turned_place.result < rounded_up k.args.size
low k = rw k.turned_place.ensures (turned_low k.args.size k.loop-i.i (omega arith))

pub loop-i-preserved : goal.loop-i-preserved
loop-i-preserved c =
    let l = c.loop-i in
    let a = c.args in
    let t = turned (take (rounded_up a.size) (drop a.raw a.s.now)) in
    let n : length t ≡ rounded_up a.size = length-turned (take (rounded_up a.size) (drop a.raw a.s.now)) ∙ length_there a.s.now a.raw a.size c.requires.0 in
    let byte = turned_byte a.s.now a.raw a.size c.requires.0 l.i (omega arith) in
    rw (c.turned_place.ensures, ← byte, l.invariant) (last_more c.copy_turned.new.to t (a.size / 4 * 4) l.i (omega arith) (omega (arith, n)))

pub returns : goal.returns
returns c =
    let l = c.loop-i in
    let a = c.args in
    let t = turned (take (rounded_up a.size) (drop a.raw a.s.now)) in
    let n : length t ≡ rounded_up a.size = length-turned (take (rounded_up a.size) (drop a.raw a.s.now)) ∙ length_there a.s.now a.raw a.size c.requires.0 in
    let e : l.i ≡ a.size = omega arith in
    let fours = fours_first a.s.now a.raw a.size c.requires.0 _ refl in
    l.invariant ∙ rw (e, c.copy_turned.ensures, fours) (last_all a.to.now t (a.size / 4 * 4) a.size (omega arith) (omega (arith, n)))

pub overflow_add-to : goal.overflow_add-to
overflow_add-to c = omega (arith, low c)

pub bounds-s-raw : goal.bounds-s-raw
bounds-s-raw c = omega (arith, low (goal.at.bounds-s-raw c).After-turned_place)
