-- The one nearest to it is widened where it is near; else the two that are closest become one, and it takes the place of the other.
use mathlib.Core.Path.{◌∙◌}
use Rattle.ranges.proofs.CoverLaws.{taken_beside, taken_near, taken_far}
use Rattle.ranges.proofs.cover.take_in.Goals as goal

pub returns-then-away-span : goal.returns-then-away-span
returns-then-away-span c =
    let call = c.widen.ensures in
    let with = taken_beside _ _ _ _ _ _ c.nearest-k.ensures.0 c.gap-away.ensures c.if-away-span.true in
    record { firsts = call.firsts ∙ with.0; lasts = call.lasts ∙ with.1 }

pub returns-then-away-apart : goal.returns-then-away-apart
returns-then-away-apart c =
    let call = c.widen-then-away-apart.ensures in
    let with = taken_near _ _ _ _ _ _ c.nearest-k.ensures.0 c.gap-away.ensures _ _ c.closest-one.ensures.0 c.apart.ensures c.if-away-apart.true in
    record { firsts = call.firsts ∙ with.0; lasts = call.lasts ∙ with.1 }

pub returns : goal.returns
returns c =
    let call = c.join.ensures in
    let other = c.beside-other.ensures.0 in
    let with = taken_far _ _ _ _ _ _ c.nearest-k.ensures.0 c.gap-away.ensures _ _ c.closest-one.ensures.0 c.apart.ensures c.if-away-span.false c.if-away-apart.false in
    record { firsts = call.firsts ∙ rw other with.0; lasts = call.lasts ∙ rw other with.1 }
