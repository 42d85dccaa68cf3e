use Prim.Native.Nat.{◌≤◌, ◌<◌, ◌+◌}
use mathlib.Core.Path.{sym, ◌∙◌}
use native.Mathlib.Omega.{arith}
use lib.ListN.{length}
use Rattle.image.specs.Layout.{rounded_up, span_of}
use Rattle.image.proofs.FieldLaws.{zeros_none, zeros_more, zeros_not}
use Rattle.image.proofs.AreaAtLaws.{place_low, length_area_at, area_byte, padding_all}
use Rattle.image.proofs.reader.is_padded.Goals.{Start, After-place_in, In-loop-i}
use Rattle.image.proofs.reader.is_padded.Goals as goal

-- the data area lies inside
area : (k : Start) → k.args.at + 12 + rounded_up k.args.size ≤ length k.args.s.now
unfolding span_of
area k = omega (arith, k.requires)

-- and so does each place in it
low : (k : After-place_in) → k.place_in.result < rounded_up k.args.size
unfolding span_of
low k = rw k.place_in.ensures (place_low k.args.order k.args.size k.loop-i.i (omega (arith, k.span-end.ensures)))

pub loop-i-init : goal.loop-i-init
loop-i-init c = padding_all c.args.s.now (c.args.at + 12) c.args.size (area (goal.at.loop-i-init c).Start) c.args.order

pub overflow_add-raw-in-loop-i : goal.overflow_add-raw-in-loop-i
overflow_add-raw-in-loop-i c = omega (arith, low c, area (goal.at.overflow_add-raw-in-loop-i c).Start)

pub bounds-s-raw : goal.bounds-s-raw
bounds-s-raw c = omega (arith, low (goal.at.bounds-s-raw c).After-place_in, area (goal.at.bounds-s-raw c).Start)

pub returns-then-s-raw-ne0 : goal.returns-then-s-raw-ne0
unfolding span_of
returns-then-s-raw-ne0 c =
    let l = c.loop-i in
    let a = c.args in
    let w = area (goal.at.returns-then-s-raw-ne0 c).Start in
    let in_area : l.i < rounded_up a.size = omega (arith, c.span-end.ensures) in
    let e = area_byte a.s.now (a.at + 12) a.size w a.order l.i in_area in
    let k = length_area_at a.s.now (a.at + 12) a.size w a.order in
    sym (l.invariant ∙ zeros_not _ _ _ in_area (omega (arith, k)) (λ z. c.if-s-raw-ne0.true (rw c.place_in.ensures (sym e ∙ z))))

pub loop-i-preserved : goal.loop-i-preserved
unfolding span_of
loop-i-preserved c =
    let l = c.loop-i in
    let a = c.args in
    let w = area (goal.at.loop-i-preserved c).Start in
    let in_area : l.i < rounded_up a.size = omega (arith, c.span-end.ensures) in
    let e = area_byte a.s.now (a.at + 12) a.size w a.order l.i in_area in
    let k = length_area_at a.s.now (a.at + 12) a.size w a.order in
    l.invariant ∙ zeros_more _ _ _ in_area (omega (arith, k)) (e ∙ rw c.place_in.ensures at c.if-s-raw-ne0.false)

pub returns : goal.returns
unfolding span_of
returns c = sym (c.loop-i.invariant ∙ zeros_none _ _ _ (omega (arith, c.span-end.ensures)))
