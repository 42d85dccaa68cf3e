-- Each answer is a law of two blocks and of the addresses where they meet.
use Prim.Native.Nat.{ℕ, ◌-◌}
use mathlib.Core.Path.{◌≡◌, ap, sym, ◌∙◌}
use native.Mathlib.Omega.{arith}
use lib.ListN.{take, drop}
use Rattle.image.specs.Order.{area_in}
use Rattle.compare.specs.Matching.{block_with, equal_bytes}
use Rattle.compare.specs.Stored.{block_of}
use Rattle.compare.proofs.AreaBlocks.{block_long, block_part}
use Rattle.compare.proofs.PairLaws.{Meeting, part, share_none, runs_apart, length_part, bytes_equal, bytes_differ}
use Rattle.compare.proofs.matching.matching.Goals.{After-equal_in, After-min-to}
use Rattle.compare.proofs.matching.matching.Goals as goal

-- where the two blocks meet
met : (k : After-min-to) → Meeting (block_with k.args.x.now k.args.xload k.args.xrun) (block_of k.args.y.now) k.max-from.result k.min-to.result
met k = (k.max-from.ensures, rw (block_long k.args.y.now) k.min-to.ensures)

pub returns-then-to-from : goal.returns-then-to-from
returns-then-to-from c = share_none _ _ _ _ (met (goal.at.returns-then-to-from c).After-min-to) c.if-to-from.true

pub returns-then-xrun-yload : goal.returns-then-xrun-yload
returns-then-xrun-yload c = runs_apart _ _ _ _ (met (goal.at.returns-then-xrun-yload c).After-min-to) c.if-to-from.false c.if-xrun-yload.true

pub equal_in-requires : goal.equal_in-requires
equal_in-requires c =
    let b = block_with c.args.x.now c.args.xload c.args.xrun in
    let y = c.args.y.now in
    let long = block_long y in
    let m = met (goal.at.equal_in-requires c).After-min-to in
    let n = length_part b (block_of y) _ _ m c.if-to-from.false b (omega (arith, m)) (omega (arith, m)) in
    (omega (arith, y.whole), rw n (omega (arith, m, long, y.whole)))

-- what was compared are the parts of the two blocks
compared : (k : After-equal_in) → let b = block_with k.args.x.now k.args.xload k.args.xrun in let c = block_of k.args.y.now in Meeting b c k.max-from.result k.min-to.result → k.equal_in.result ≡ equal_bytes (part b k.max-from.result k.min-to.result) (part c k.max-from.result k.min-to.result)
compared k m =
    let a = k.args in
    let y = a.y.now in
    let b = block_with a.x.now a.xload a.xrun in
    let from = k.max-from.result in
    let to = k.min-to.result in
    let at = from - y.part.load.0 in
    let long = block_long y in
    let n = length_part b (block_of y) from to m k.if-to-from.false b (omega (arith, m)) (omega (arith, m)) in
    let e : to - from ≡ to - y.part.load.0 - at = omega (arith, m) in
    k.equal_in.ensures ∙ ap (equal_bytes (part b from to)) (ap (λ (i : ℕ). take i (drop at (area_in y.order y.area.now))) (n ∙ e) ∙ block_part y (to - y.part.load.0 - at) at (omega (arith, m, long)))

pub returns-then-equal_in : goal.returns-then-equal_in
returns-then-equal_in c =
    let m = met (goal.at.returns-then-equal_in c).After-min-to in
    bytes_equal _ _ _ _ m c.if-to-from.false c.if-xrun-yload.false (sym (compared (goal.at.returns-then-equal_in c).After-equal_in m) ∙ c.if-equal_in.true)

pub returns : goal.returns
returns c =
    let m = met (goal.at.returns c).After-min-to in
    bytes_differ _ _ _ _ m c.if-to-from.false c.if-xrun-yload.false (sym (compared (goal.at.returns c).After-equal_in m) ∙ c.if-equal_in.false)
