-- Each answer is that of the first rule that holds at the place after undoing from there, or what is read there.
use mathlib.Core.Path.{◌≡◌, sym, ◌∙◌}
use native.Mathlib.Omega.{arith}
use lib.ListN.{drop}
use Rattle.image.specs.Layout.{span_of}
use Rattle.image.specs.Order.{undone_from}
use Rattle.image.specs.Reading.{size_here}
use Rattle.image.proofs.OrderLaws.{length-undone_from}
use Rattle.image.proofs.UndoneLaws.{alongside_from, size_here_lem, fields_undone}
use Rattle.image.proofs.StandingLaws.{image_long, field_cut, flag_told, block_cut, block_told}
use Rattle.image.proofs.standing.standing.Goals.{After-number_at-size}
use Rattle.image.proofs.standing.standing.Goals as goal

pub returns-then-n-gt16777216 : goal.returns-then-n-gt16777216
returns-then-n-gt16777216 c =
    let n = length-undone_from c.args.order c.args.place c.args.s.now in
    image_long _ _ (omega (arith, n))

pub returns-then-n-place : goal.returns-then-n-place
returns-then-n-place c =
    let n = length-undone_from c.args.order c.args.place c.args.s.now in
    field_cut _ _ (omega (arith, n)) (omega (arith, n))

pub returns-then-left-lt4 : goal.returns-then-left-lt4
returns-then-left-lt4 c =
    let n = length-undone_from c.args.order c.args.place c.args.s.now in
    field_cut _ _ (omega (arith, n)) (omega (arith, n))

-- the size that is read is that of what stands there after undoing
sized : (k : After-number_at-size) → k.number_at-size.result ≡ size_here (drop k.args.place (undone_from k.args.order k.args.place k.args.s.now))
sized k = k.number_at-size.ensures ∙ sym (size_here_lem _ _ _ _ (alongside_from _ _ _))

pub returns-then-size-eq0 : goal.returns-then-size-eq0
returns-then-size-eq0 c =
    let n = length-undone_from c.args.order c.args.place c.args.s.now in
    flag_told _ _ (omega (arith, n)) (omega (arith, n)) (omega (arith, sized (goal.at.returns-then-size-eq0 c).After-number_at-size))

pub returns-then-left-span : goal.returns-then-left-span
unfolding span_of
returns-then-left-span c =
    let n = length-undone_from c.args.order c.args.place c.args.s.now in
    let e = sized (goal.at.returns-then-left-span c).After-number_at-size in
    block_cut _ _ (omega (arith, n)) (omega (arith, n)) (omega (arith, e)) (rw (← e) (omega (arith, n)))

pub returns : goal.returns
unfolding span_of
returns c =
    let n = length-undone_from c.args.order c.args.place c.args.s.now in
    let e = sized (goal.at.returns c).After-number_at-size in
    let f = fields_undone _ _ _ _ (alongside_from _ _ _) _ c.header_at.ensures (omega (arith, c.header_at.ensures.size, c.number_at-size.ensures)) in
    block_told _ _ (omega (arith, n)) (omega (arith, n)) (omega (arith, e)) (rw (← e) (omega (arith, n))) _ _ f
