use mathlib.Core.Path.{◌≡◌, sym}
use native.Mathlib.Omega.{arith}
use lib.ListN.{length, length-append}
use Rattle.std.proofs.lemmas.Slice.Zip.{zip_turn, zip_end}
use Rattle.compare.specs.Matching.{equal_at, equal_bytes}
use Rattle.compare.proofs.CountLaws.{all_none, all_more}
use Rattle.compare.proofs.equal.equal.Goals.{After-into_iter-a-iterator}
use Rattle.compare.proofs.equal.equal.Goals as goal

-- the rows that the loop goes through
first : (k : After-into_iter-a-iterator) → k.into_iter-a-iterator.result.a.rest.now ≡ k.args.x.now
first k = rw (k.into_iter-a-iterator.ensures.into_iter_gives, k.zip-a-items.ensures.first) k.iter.ensures.rest

second : (k : After-into_iter-a-iterator) → k.into_iter-a-iterator.result.b.rest.now ≡ k.args.y.now
second k = rw k.into_iter-a-iterator.ensures.into_iter_gives k.zip-a-items.ensures.second.0

pub loop-a-init : goal.loop-a-init
loop-a-init c = sym (all_none (equal_at c.args.x.now c.args.y.now))

pub loop-a-preserved : goal.loop-a-preserved
loop-a-preserved c =
    let k = (goal.at.loop-a-preserved c).After-into_iter-a-iterator in
    let l = c.loop-a in
    let turn = zip_turn c.args.x.now c.args.y.now l.yielded c.into_iter-a-iterator.result l.a-iterator c.next.new.self c.next.result (first k) (second k) l.yielded_by (c.in-Some.a, c.in-Some.b) c.in-Some.is c.next.ensures.steps in
    rw (length-append, all_more (equal_at c.args.x.now c.args.y.now) (length l.yielded), l.invariant, turn.2 0, turn.3 0)

pub returns : goal.returns
unfolding equal_bytes
returns c =
    let k = (goal.at.returns c).After-into_iter-a-iterator in
    let l = c.loop-a in
    let turns = zip_end c.args.x.now c.args.y.now l.yielded c.into_iter-a-iterator.result l.a-iterator c.next.new.self c.next.result (first k) (second k) l.yielded_by c.in-None.is c.next.ensures.steps in
    let e : length l.yielded ≡ length c.args.x.now = omega arith in
    rw e at l.invariant
