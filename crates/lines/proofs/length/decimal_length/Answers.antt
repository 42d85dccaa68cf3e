-- A number has one digit more than its logarithm, and 0 has as many as 1.
use Prim.Native.Nat.{ℕ, zero, suc, max}
use mathlib.Core.Path.{◌≡◌, ap}
use native.Mathlib.Omega.{arith}
use lib.ListN.{length}
use Rattle.lines.specs.Text.{decimal}
use Rattle.lines.proofs.DigitLaws.{length_decimal_is, length_decimal_one}
use Rattle.lines.proofs.length.decimal_length.Goals as goal

as_many : (n m : ℕ) → m ≡ max n 1 → length (decimal m) ≡ length (decimal n)
as_many zero m e = omega (arith, length_decimal_one m (omega arith), length_decimal_one 0 (omega arith))
as_many (suc n) m e = let same : m ≡ suc n = omega arith in ap (λ (k : ℕ). length (decimal k)) same

pub returns : goal.returns
returns c =
    let l = c.ilog10.ensures in
    omega (arith, l.bound, as_many c.args.n c.max.result c.max.ensures, length_decimal_is c.ilog10.result c.max.result l.power_le l.next_power_gt)
