-- Below ten there is one digit; above, the digits of a tenth of the number come first.
use Prim.Native.Nat.{◌%◌, ◌/◌}
use mathlib.Core.List.{[], ◌∷◌}
use native.Mathlib.Omega.{arith}
use Rattle.fields.specs.Patch.{patch}
use Rattle.fields.proofs.PatchLaws.{patch_then}
use Rattle.lines.specs.Text.{decimal, digit}
use Rattle.lines.proofs.DigitLaws.{digit_below, decimal_one, decimal_more, length_decimal_one, length_decimal_more}
use Rattle.lines.proofs.piece.+put_decimal.Goals as goal

pub bounds-digits-0 : goal.bounds-digits-0
bounds-digits-0 t c = omega (arith, length_decimal_one c.args.n (omega arith))

pub returns-then-n-lt10-clause-many : goal.returns-then-n-lt10-clause-many
returns-then-n-lt10-clause-many t c = rw (length_decimal_one c.args.n (omega arith))

pub returns-then-n-lt10-clause-put : goal.returns-then-n-lt10-clause-put
unfolding patch
returns-then-n-lt10-clause-put t c =
    rw (decimal_one c.args.n (omega arith), digit_below c.args.n (omega arith))

pub put_decimal-many-requires : goal.put_decimal-many-requires
put_decimal-many-requires t c = omega (arith, length_decimal_more c.args.n (omega arith))

pub bounds-digits-many : goal.bounds-digits-many
bounds-digits-many t c = omega (arith, length_decimal_more c.args.n (omega arith))

pub overflow_add-result : goal.overflow_add-result
overflow_add-result t c = omega (arith, length_decimal_more c.args.n (omega arith))

pub returns-clause-many : goal.returns-clause-many
returns-clause-many t c = omega (arith, length_decimal_more c.args.n (omega arith))

pub returns-clause-put : goal.returns-clause-put
unfolding patch
returns-clause-put t c =
    let many = c.put_decimal-many.ensures.many in
    rw (decimal_more c.args.n (omega arith), c.put_decimal-many.ensures.put, digit_below (c.args.n % 10) (omega arith))
    (patch_then c.args.digits.now 0 (decimal (c.args.n / 10)) c.put_decimal-many.result (digit (c.args.n % 10) ∷ []) (omega arith))
