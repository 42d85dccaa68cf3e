-- The figures decide rules 14 and 15 before the image is written.
use Rattle.std.proofs.lemmas.Result.{err_from_is_err_and}
use lib.ListN.{length}
use native.Mathlib.Omega.{arith}
use Rattle.coff.specs.Handed.{source_in}
use Rattle.image.proofs.ConversionLaws.{sized_done, too_long_lem, too_small, makes}
use Rattle.image.proofs.converting.convert_sound.Goals as goal

pub returns-in_err-made : goal.returns-in_err-made
returns-in_err-made c =
    let p = err_from_is_err_and c.from_residual.result c.from_residual.ensures.1 in
    let all = too_long_lem (source_in c.args.file.now) c.args.order (length c.args.out.now) c.in_err-made.ensures c.args.out.now in
    rw (p.1, p.2) (record { answers = all.0; leaves = all.1 })

pub returns-then-out-made : goal.returns-then-out-made
returns-then-out-made c =
    let all = too_small (source_in c.args.file.now) c.args.order (length c.args.out.now) c.in_ok-made.ensures c.if-out-made.true c.args.out.now in
    record { answers = all.0; leaves = all.1 }

pub put_image-requires : goal.put_image-requires
put_image-requires c =
    let made = sized_done (source_in c.args.file.now) c.in_ok-made.ensures in
    omega (arith, made.0)

pub returns : goal.returns
returns c =
    let all = makes (source_in c.args.file.now) c.args.order (length c.args.out.now) c.in_ok-made.ensures c.if-out-made.false c.args.out.now in
    rw c.put_image.ensures (record { answers = all.0; leaves = all.1 })
