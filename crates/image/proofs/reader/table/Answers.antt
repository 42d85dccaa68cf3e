use Prim.Native.Nat.{◌<◌}
use mathlib.Core.Path.{◌≡◌, sym, ◌∙◌}
use native.Mathlib.Omega.{arith}
use lib.ListN.{drop}
use Rattle.image.specs.Layout.{span_of}
use Rattle.image.specs.Order.{undone}
use Rattle.image.specs.Reading.{size_here}
use Rattle.image.specs.Steps.{Fields}
use Rattle.image.proofs.OrderLaws.{length-undone}
use Rattle.image.proofs.UndoneLaws.{entry_undone, alongside_first, size_here_lem, padding_here_lem, fields_undone, alongside_next}
use Rattle.image.proofs.ReaderLaws.{Whole, going_first, cut_field, trailing, ends, too_many, cut_block, loads_over, runs_over, not_padded, going_on}
use Rattle.image.proofs.reader.table.Goals.{After-header_at-b, After-number_at-size, Else-left-span}
use Rattle.image.proofs.reader.table.Goals as goal

pub loop-c-init : goal.loop-c-init
loop-c-init c =
    let e = length-undone c.args.order c.args.s.now in
    (e, going_first _ _ (omega (arith, e)) c.first-c.ensures, alongside_first _ _ _ c.first-c.ensures)

pub returns-then-left-lt4 : goal.returns-then-left-lt4
returns-then-left-lt4 c = rw c.at.ensures (cut_field _ _ c.loop-c.invariant.1 (omega arith))

-- the size that is read is that of the block after undoing
sized : (k : After-number_at-size) → k.number_at-size.result ≡ size_here (drop k.loop-c.c.at (undone k.args.order k.args.s.now))
sized k = k.number_at-size.ensures ∙ sym (size_here_lem _ _ _ _ k.loop-c.invariant.2)

pub returns-then-left-gt4 : goal.returns-then-left-gt4
returns-then-left-gt4 c =
    let e = sized (goal.at.returns-then-left-gt4 c).After-number_at-size in
    rw c.at-then-left-gt4.ensures (trailing _ _ c.loop-c.invariant.1 (omega (arith, e)))

pub returns-then-size-eq0 : goal.returns-then-size-eq0
returns-then-size-eq0 c =
    rw (c.number_at-entry.ensures, ← (entry_undone _ _)) (ends _ _ c.loop-c.invariant.1 (omega (arith, sized (goal.at.returns-then-size-eq0 c).After-number_at-size)))

pub returns-then-k-ge4096 : goal.returns-then-k-ge4096
returns-then-k-ge4096 c =
    let e = sized (goal.at.returns-then-k-ge4096 c).After-number_at-size in
    rw c.at-then-k-ge4096.ensures (too_many _ _ c.loop-c.invariant.1 (omega (arith, e)) c.if-k-ge4096.true)

pub returns-then-left-span : goal.returns-then-left-span
unfolding span_of
returns-then-left-span c =
    let e = sized (goal.at.returns-then-left-span c).After-number_at-size in
    rw c.at-then-left-span.ensures (cut_block _ _ c.loop-c.invariant.1 (omega (arith, e)) (rw (← e) (omega arith)))

-- a block that passes its first tests is wholly there
whole : (k : Else-left-span) → k.number_at-size.result ≡ size_here (drop k.loop-c.c.at (undone k.args.order k.args.s.now)) → Whole (undone k.args.order k.args.s.now) k.loop-c.c
unfolding span_of
whole k e =
    record { real = rw (← e) (omega arith); few = omega arith; whole = rw (← e) (omega arith) }

real : (k : After-header_at-b) → 0 < k.header_at-b.result.part.size
real k = omega (arith, k.header_at-b.ensures.size)

-- what is read of it is what it has after undoing
read : (k : After-header_at-b) → Fields (undone k.args.order k.args.s.now) k.loop-c.c k.header_at-b.result
read k = fields_undone _ _ _ _ k.loop-c.invariant.2 _ k.header_at-b.ensures (real k)

pub returns-then-end-gt4294967296 : goal.returns-then-end-gt4294967296
returns-then-end-gt4294967296 c =
    let at_after_header_at_b = (goal.at.returns-then-end-gt4294967296 c).After-header_at-b in
    let e = sized (goal.at.returns-then-end-gt4294967296 c).After-number_at-size in
    rw c.at-then-end-gt4294967296.ensures (loads_over _ _ c.loop-c.invariant.1 (whole (goal.at.returns-then-end-gt4294967296 c).Else-left-span e) (omega (arith, read at_after_header_at_b, e, c.end.ensures)))

pub returns-then-end-gt4294967296-2 : goal.returns-then-end-gt4294967296-2
returns-then-end-gt4294967296-2 c =
    let at_after_header_at_b = (goal.at.returns-then-end-gt4294967296-2 c).After-header_at-b in
    let e = sized (goal.at.returns-then-end-gt4294967296-2 c).After-number_at-size in
    rw c.at-then-end-gt4294967296-2.ensures (runs_over _ _ c.loop-c.invariant.1 (whole (goal.at.returns-then-end-gt4294967296-2 c).Else-left-span e) (omega (arith, read at_after_header_at_b, e, c.end.ensures)) (omega (arith, read at_after_header_at_b, e, c.end-in-loop-c.ensures)))

pub returns-then-not-is_padded : goal.returns-then-not-is_padded
returns-then-not-is_padded c =
    let at_after_header_at_b = (goal.at.returns-then-not-is_padded c).After-header_at-b in
    let turn = c.loop-c in
    let e = sized (goal.at.returns-then-not-is_padded c).After-number_at-size in
    rw c.at-then-not-is_padded.ensures
    (not_padded _ _ turn.invariant.1 (whole (goal.at.returns-then-not-is_padded c).Else-left-span e) (omega (arith, read at_after_header_at_b, e, c.end.ensures)) (omega (arith, read at_after_header_at_b, e, c.end-in-loop-c.ensures))
    (sym (padding_here_lem _ _ _ _ turn.invariant.2 _ c.number_at-size.ensures (omega arith)) ∙ sym c.is_padded.ensures ∙ c.if-not-is_padded.true))

pub loop-c-preserved : goal.loop-c-preserved
loop-c-preserved c =
    let at_after_header_at_b = (goal.at.loop-c-preserved c).After-header_at-b in
    let turn = c.loop-c in
    let e = sized (goal.at.loop-c-preserved c).After-number_at-size in
    let padded = sym (padding_here_lem _ _ _ _ turn.invariant.2 _ c.number_at-size.ensures (omega arith)) ∙ sym c.is_padded.ensures ∙ c.if-not-is_padded.false in
    let load = c.end.ensures in
    let run = c.end-in-loop-c.ensures in
    (turn.invariant.0, going_on _ _ turn.invariant.1 (whole (goal.at.loop-c-preserved c).Else-left-span e) (omega (arith, read at_after_header_at_b, e, load, c.if-end-gt4294967296.false)) (omega (arith, read at_after_header_at_b, e, run, c.if-end-gt4294967296-2.false)) padded _ (read at_after_header_at_b), alongside_next _ _ _ _ turn.invariant.2 _ c.header_at-b.ensures (real at_after_header_at_b) (omega arith))
