-- The part of the buffer that is lent comes back with the word over its front.
use mathlib.Core.Path.{refl}
use Rattle.fields.proofs.PatchLaws.{length-patch}
use Rattle.lines.proofs.PutLaws.{puts_front}
use Rattle.lines.proofs.piece.Text.word.Goals as goal

pub returns : goal.returns
returns c =
    let t = c.args.self.now in
    let e = puts_front t c.copy_front.new.to c.args.word.now c.copy_front.ensures c.requires in
    record {
      ends = refl;
      holds = e;
      room = rw e (length-patch t.bytes.now t.end c.args.word.now);
      same_reference = refl;
    }
