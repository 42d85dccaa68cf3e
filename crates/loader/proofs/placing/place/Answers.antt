-- The part that was lent comes back with the bytes over its front, which is the window with the bytes from there on.
use Prim.Native.Nat.{◌-◌}
use native.Mathlib.Omega.{arith}
use lib.ListN.{length}
use Rattle.fields.proofs.PatchLaws.{part_front}
use Rattle.loader.proofs.placing.place.Goals as goal

pub returns : goal.returns
returns c =
    let a = c.args in
    let at = a.load.0 - a.base in
    rw c.copy_front.ensures
    (part_front at (length a.window.now - at) a.window.now a.bytes.now (omega (arith, c.requires)) (omega (arith, c.requires)))
