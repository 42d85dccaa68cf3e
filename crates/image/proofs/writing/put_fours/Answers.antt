-- The part that was lent comes back with the whole fours over its front, which is the whole with them written over it.
use Prim.Native.Nat.{◌*◌, ◌-◌, ◌/◌}
use native.Mathlib.Omega.{arith}
use lib.ListN.{length, take}
use lib.Seq.{length-take-le}
use Rattle.fields.specs.Turning.{turned}
use Rattle.fields.proofs.PatchLaws.{part_front}
use Rattle.fields.proofs.TurningLaws.{length-turned}
use Rattle.image.proofs.writing.put_fours.Goals as goal

pub returns : goal.returns
returns c =
    let a = c.args in
    let fours = take (4 * (length a.raw.now / 4)) a.raw.now in
    let l = length-take-le (4 * (length a.raw.now / 4)) a.raw.now (omega arith) in
    rw c.copy_turned.ensures (part_front a.at (length a.out.now - a.at) a.out.now (turned fours) (omega (arith, l, length-turned fours)) (omega arith))
