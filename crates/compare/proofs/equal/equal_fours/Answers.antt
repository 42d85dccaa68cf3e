use Prim.Native.Nat.{◌+◌, ◌*◌, ◌/◌, ◌≤◌}
use mathlib.Core.Path.{◌≡◌, sym}
use mathlib.Core.List.{[]}
use native.Mathlib.Omega.{arith}
use lib.ListN.{length, length-append}
use lib.Seq.{take_all}
use Rattle.std.proofs.lemmas.Slice.Zip.{zip_turn, zip_end}
use Rattle.std.specs.Simd.{first_chunks}
use Rattle.fields.specs.Turning.{turned}
use Rattle.fields.proofs.NumberLaws.{bytes_of}
use Rattle.fields.proofs.TurningLaws.{length-turned}
use Rattle.compare.proofs.EqualLaws.{equal_none, fours_count, four_at, equal_four}
use Rattle.compare.proofs.equal.equal_fours.Goals.{After-into_iter-a-iterator}
use Rattle.compare.proofs.equal.equal_fours.Goals as goal

-- the rows of fours that the loop goes through
first : (k : After-into_iter-a-iterator) → let x = k.args.x.now in k.into_iter-a-iterator.result.a.rest.now ≡ first_chunks 4 (length x / 4) x
first k = rw (k.into_iter-a-iterator.ensures.into_iter_gives, k.zip-a-items.ensures.first, k.iter.ensures.rest) k.as_chunks.ensures.front

second : (k : After-into_iter-a-iterator) → let y = k.args.y.now in k.into_iter-a-iterator.result.b.rest.now ≡ first_chunks 4 (length y / 4) y
second k = rw (k.into_iter-a-iterator.ensures.into_iter_gives, k.zip-a-items.ensures.second.0) k.as_chunks-2.ensures.front

pub loop-a-init : goal.loop-a-init
loop-a-init c = sym equal_none

pub loop-a-preserved : goal.loop-a-preserved
loop-a-preserved c =
    let k = (goal.at.loop-a-preserved c).After-into_iter-a-iterator in
    let l = c.loop-a in
    let x = c.args.x.now in
    let y = c.args.y.now in
    let i = length l.yielded in
    let turn = zip_turn (first_chunks 4 (length x / 4) x) (first_chunks 4 (length y / 4) y) l.yielded c.into_iter-a-iterator.result l.a-iterator c.next.new.self c.next.result (first k) (second k) l.yielded_by (c.in-Some.a, c.in-Some.b) c.in-Some.is c.next.ensures.steps in
    let low : i + 1 ≤ length x / 4 = omega (arith, fours_count (length x / 4) x) in
    rw (length-append, equal_four i x y (bytes_of x c.type_inv.x) (bytes_of y c.type_inv.y) (omega arith) (omega arith), l.invariant, c.from_le_bytes.ensures, c.from_be_bytes.ensures, turn.2 [], turn.3 [], four_at (length x / 4) i x (omega arith), four_at (length y / 4) i y (omega arith))

pub returns : goal.returns
returns c =
    let k = (goal.at.returns c).After-into_iter-a-iterator in
    let l = c.loop-a in
    let x = c.args.x.now in
    let y = c.args.y.now in
    let turns = zip_end (first_chunks 4 (length x / 4) x) (first_chunks 4 (length y / 4) y) l.yielded c.into_iter-a-iterator.result l.a-iterator c.next.new.self c.next.result (first k) (second k) l.yielded_by c.in-None.is c.next.ensures.steps in
    let e : 4 * length l.yielded ≡ length x = omega (arith, fours_count (length x / 4) x, fours_count (length y / 4) y) in
    rw (take_all (4 * length l.yielded) x (omega arith), take_all (4 * length l.yielded) (turned y) (omega (arith, length-turned y))) at l.invariant
