-- The blocks of the first i sections stand behind the entry point, and what follows is as it was.
use Prim.Native.Nat.{◌+◌}
use mathlib.Core.Path.{◌≡◌}
use lib.ListN.{length}
use Rattle.fields.specs.Counting.{joined}
use Rattle.fields.specs.Patch.{patch}
use Rattle.fields.specs.Program.{blocks_of_parts}
use Rattle.coff.specs.Handed.{part_in}
use Rattle.image.specs.Layout.{spans_of}
use Rattle.image.specs.Spelling.{spelled_blocks}
use Rattle.image.proofs.converting.put_parts.Given as goal

abbrev pub invariant-loop-i : goal.invariant-loop-i
invariant-loop-i l = (l.to ≡ 4 + spans_of (blocks_of_parts (joined (part_in l.file) l.i))) × (length l.out ≡ length l.initial.out) × (l.out ≡ patch l.initial.out 4 (spelled_blocks l.order (blocks_of_parts (joined (part_in l.file) l.i))))
