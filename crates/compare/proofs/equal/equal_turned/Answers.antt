-- The three parts are the whole row; the middle one begins where a four does, or is empty, so that it may be taken before it is turned.
use Prim.Native.Nat.{◌+◌, ◌*◌, ◌-◌, ◌/◌, ◌≤◌}
use mathlib.Core.Path.{◌≡◌}
use native.Mathlib.Nat.{le_refl}
use native.Mathlib.Omega.{arith}
use lib.ListN.{length, drop, length-take, length-drop}
use lib.Seq.{length-take-le}
use Rattle.compare.proofs.EqualLaws.{equal_thirds}
use Rattle.compare.proofs.equal.equal_turned.Goals as goal

pub slice_bounds-equal_singly-end : goal.slice_bounds-equal_singly-end
slice_bounds-equal_singly-end c = simp length-take (omega arith)

pub equal_singly-before-requires : goal.equal_singly-before-requires
equal_singly-before-requires c = simp length-take (omega arith)

pub returns : goal.returns
returns c =
    let a = c.args in
    let x = a.x.now in
    let n = length x in
    let head = c.min-head.result in
    let m = (n - head) / 4 in
    let mid = head + 4 * m in
    let within : head ≤ n = omega arith in
    let first = length-take-le head x within in
    let fours : mid - head ≡ 4 * m = omega arith in
    let fours-there : a.from + mid - (a.from + head) ≡ 4 * m = omega arith in
    let last = length-take-le (n - mid) (drop mid x) (rw length-drop (le_refl (n - mid))) in
    rw (c.equal_singly-behind.ensures, c.equal_fours-fours.ensures, c.equal_singly-before.ensures, first, fours, fours-there, last)
    (equal_thirds x a.area.now a.from head m (n - mid) (omega arith) (omega arith) (λ p. omega arith))
