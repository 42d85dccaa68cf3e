-- Each answer is that of the first rule that holds after undoing: 20, 21, those of the table, 27.
use Prim.Native.Nat.{ℕ, ◌≤◌}
use mathlib.Core.Path.{◌≡◌, sym}
use mathlib.Core.List.{List}
use native.Mathlib.Omega.{arith}
use lib.ListN.{length}
use Rattle.std.proofs.lemmas.Result.{err_from_is_err_and}
use Rattle.image.specs.Order.{undone}
use Rattle.image.specs.Reading.{entry_in, blocks_in}
use Rattle.image.specs.Walking.{Framed}
use Rattle.image.proofs.OrderLaws.{length-undone}
use Rattle.image.proofs.ReadLaws.{too_long_lem, too_short, table_refuses, framed, meets, none_meet}
use Rattle.image.proofs.reader.contents.Goals.{In_ok-contents}
use Rattle.image.proofs.reader.contents.Goals as goal

pub returns-then-n-gt16777216 : goal.returns-then-n-gt16777216
returns-then-n-gt16777216 c =
    let a = c.args in
    rw c.into.ensures (too_long_lem (undone a.order a.s.now) (omega (arith, length-undone a.order a.s.now)))

-- the image is as long as it has to be
long : (order : ℕ) (s : List ℕ) → (length s ≤ 16777216) × (4 ≤ length s) → (length (undone order s) ≤ 16777216) × (4 ≤ length (undone order s))
long order s h = omega (arith, length-undone order s)

pub returns-then-n-lt4 : goal.returns-then-n-lt4
returns-then-n-lt4 c =
    let a = c.args in
    let e = length-undone a.order a.s.now in
    rw c.into-then-n-lt4.ensures (too_short (undone a.order a.s.now) (omega (arith, e)) (omega (arith, e)))

pub returns-in_err-contents : goal.returns-in_err-contents
returns-in_err-contents c =
    let l = long c.args.order c.args.s.now (omega arith) in
    let p = err_from_is_err_and c.from_residual.result c.from_residual.ensures.1 in
    rw (p.1, p.2) (table_refuses _ l.0 l.1 (sym c.in_err-contents.ensures))

-- what the table tells of an image that it does not refuse
known : (k : In_ok-contents) → let u = undone k.args.order k.args.s.now in Framed u × (k.in_ok-contents.contents.entry ≡ entry_in u) × (k.in_ok-contents.contents.blocks ≡ length (blocks_in u))
known k =
    let l = long k.args.order k.args.s.now (omega arith) in
    framed _ l.0 l.1 _ (sym k.in_ok-contents.ensures)

pub first_meeting-requires : goal.first_meeting-requires
first_meeting-requires c = let k = known c in (k.0, k.2)

pub returns-in-Some : goal.returns-in-Some
returns-in-Some c =
    let k = known (goal.at.returns-in-Some c).In_ok-contents in
    rw c.at.ensures (meets _ k.0 _ (rw k.2 at c.in-Some.ensures))

pub returns : goal.returns
returns c =
    let k = known (goal.at.returns c).In_ok-contents in
    rw (k.1, k.2) (none_meet _ k.0 (rw k.2 at c.in_default.ensures))
