-- The part of the buffer that is lent comes back with the digits over its front.
use mathlib.Core.Path.{refl}
use Rattle.fields.proofs.PatchLaws.{length-patch}
use Rattle.lines.specs.Text.{decimal}
use Rattle.lines.proofs.PutLaws.{puts_front}
use Rattle.lines.proofs.piece.Text.decimal.Goals as goal

pub returns : goal.returns
returns c =
    let t = c.args.self.now in
    let e = puts_front t c.put_decimal.new.digits (decimal c.args.n) c.put_decimal.ensures.put c.requires in
    record {
      ends = rw c.put_decimal.ensures.many;
      holds = e;
      room = rw e (length-patch t.bytes.now t.end (decimal c.args.n));
      same_reference = refl;
    }
