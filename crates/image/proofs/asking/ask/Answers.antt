-- What refuses the image refuses; of an image that is read its count decides, or the block is found.
use Rattle.std.proofs.lemmas.Result.{err_from_is_err_and}
use Rattle.image.proofs.AskingLaws.{asked_numbers_lem}
use Rattle.image.proofs.HandedLaws.{block_lacks, block_found}
use Rattle.image.proofs.InOrderLaws.{asking_refused}
use Rattle.image.proofs.asking.ask.Goals as goal

pub returns-in_err-image : goal.returns-in_err-image
returns-in_err-image c =
    let p = err_from_is_err_and c.from_residual.result c.from_residual.ensures.1 in
    let all = asked_numbers_lem _ (asking_refused _ _ c.args.number c.in_err-image.ensures.answers) in
    rw (p.1, p.2) (record { answers = all.0; numbers = all.1 })

pub returns-then-image-number : goal.returns-then-image-number
returns-then-image-number c =
    let told = c.in_ok-image.ensures in
    let all = asked_numbers_lem _ (block_lacks c.args.order c.args.s.now c.in_ok-image.image told.answers told.image c.args.number c.if-image-number.true) in
    rw c.into.ensures (record { answers = all.0; numbers = all.1 })

pub returns : goal.returns
returns c =
    let told = c.in_ok-image.ensures in
    let all = asked_numbers_lem _ (block_found c.args.order c.args.s.now c.in_ok-image.image told.answers told.image c.args.number c.if-image-number.false) in
    rw c.find.ensures (record { answers = all.0; numbers = all.1 })
