-- One store is one byte put.
use mathlib.Core.Path.{refl}
use lib.ListN.{length-set}
use Rattle.fields.specs.Patch.{patch}
use Rattle.lines.proofs.piece.Text.byte.Goals as goal

pub returns : goal.returns
unfolding patch
returns c =
    record {
      ends = refl;
      holds = refl;
      room = simp length-set;
      same_reference = refl;
    }
