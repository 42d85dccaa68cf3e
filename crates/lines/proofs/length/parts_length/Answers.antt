-- A kept section has one line, as long as its two numbers make it, and any other has none.
use mathlib.Core.Path.{◌≡◌, ap}
use native.Mathlib.Omega.{arith}
use lib.ListN.{length}
use Rattle.coff.proofs.PartLaws.{count_few}
use Rattle.lines.proofs.PartLaws.{lines_none, lines_short, length_more, length_one, no_line}
use Rattle.lines.proofs.length.parts_length.Goals as goal
use Rattle.lines.proofs.length.parts_length.Goals.{in-Some, in_default}

pub loop-i-init : goal.loop-i-init
loop-i-init c = let file = c.args.file.now in rw (lines_none file.bytes.now file.sections)

pub overflow_add-total-in-Some-2 : goal.overflow_add-total-in-Some-2
overflow_add-total-in-Some-2 c =
    let file = c.args.file.now in
    let i = c.loop-i.i in
    let few = count_few file.read in
    omega (arith, lines_short file.bytes.now file.sections file.read i (omega arith))

pub loop-i-preserved : goal.loop-i-preserved
loop-i-preserved c =
    let file = c.args.file.now in
    let more = length_more file.bytes.now file.sections c.loop-i.i in
    elim c.match-part_at.branch [
      | in-Some w ↦ omega (arith, w.total-is, length_one _ _ _ w.in-Some.ensures)
      | in_default w ↦ omega (arith, w.total-is, ap length (no_line _ _ _ w.in_default.ensures))
    ]

pub returns : goal.returns
returns c =
    let file = c.args.file.now in
    let few = count_few file.read in
    let e : c.loop-i.i ≡ file.sections.count = omega arith in
    let short = lines_short file.bytes.now file.sections file.read file.sections.count (omega arith) in
    (rw e at c.loop-i.invariant, omega (arith, rw e at c.loop-i.invariant))
