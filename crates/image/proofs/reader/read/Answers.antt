-- What is told of the image is what the image handed on holds, and that it is accepted is what its type asks.
use mathlib.Core.Path.{refl, sym}
use Rattle.std.proofs.lemmas.Result.{err_from_is_err_and}
use Rattle.image.proofs.ReadLaws.{accepted, reading_numbers_lem}
use Rattle.image.proofs.reader.read.Goals as goal

pub returns-in_err-contents : goal.returns-in_err-contents
returns-in_err-contents c =
    let p = err_from_is_err_and c.from_residual.result c.from_residual.ensures.1 in
    let all = reading_numbers_lem _ c.in_err-contents.ensures in
    rw (p.1, p.2) (record { answers = all.0; numbers = all.1; image = tt })

pub invariant_of-result : goal.invariant_of-result
invariant_of-result c =
    let k = accepted _ _ _ (sym c.in_ok-contents.ensures) in
    record {
      framed = k.framed;
      enters = k.entry_is;
      counted = k.count_is;
    }

pub returns : goal.returns
returns c =
    let all = reading_numbers_lem _ c.in_ok-contents.ensures in
    record {
      answers = all.0;
      numbers = all.1;
      image = (refl, refl);
    }
