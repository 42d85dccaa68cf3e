-- A kept section adds its line, and any other adds none; where there is room for all lines there is room for each.
use mathlib.Core.List.{append-nil}
use native.Mathlib.Omega.{arith}
use Rattle.lines.proofs.PutLaws.{puts_none, puts_then}
use Rattle.lines.proofs.PartLaws.{lines_none, lines_more, no_line, one_line, room_left}
use Rattle.lines.proofs.listing.put_parts.Goals as goal
use Rattle.lines.proofs.listing.put_parts.Goals.{in-Some, in_default}

pub loop-i-init : goal.loop-i-init
loop-i-init c = let file = c.args.file.now in rw (lines_none file.bytes.now file.sections) (puts_none _)

pub section-requires : goal.section-requires
section-requires c =
    let file = c.args.file.now in
    omega (arith, rw (one_line _ _ _ c.in-Some.ensures) at (room_left file.bytes.now file.sections c.loop-i.i (omega arith)))

pub loop-i-preserved : goal.loop-i-preserved
loop-i-preserved c =
    let file = c.args.file.now in
    elim c.match-part_at.branch [
      | in-Some w ↦
          rw (lines_more file.bytes.now file.sections c.loop-i.i, one_line _ _ _ w.in-Some.ensures, w.text-is)
          (puts_then c.loop-i.invariant w.section.ensures)
      | in_default w ↦
          rw (lines_more file.bytes.now file.sections c.loop-i.i, no_line _ _ _ w.in_default.ensures, append-nil, w.text-is)
          c.loop-i.invariant
    ]
