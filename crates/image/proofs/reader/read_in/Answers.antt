-- What is told of the image is what it holds.
use Rattle.std.proofs.lemmas.Result.{err_from_is_err_and}
use Rattle.image.proofs.reader.read_in.Goals as goal

pub returns-in_err-image : goal.returns-in_err-image
returns-in_err-image c =
    let p = err_from_is_err_and c.from_residual.result c.from_residual.ensures.1 in
    rw (p.1, p.2) (record { answers = c.in_err-image.ensures.answers; numbers = c.in_err-image.ensures.numbers })

pub returns : goal.returns
returns c = record { answers = c.in_ok-image.ensures.answers; numbers = c.in_ok-image.ensures.numbers }
