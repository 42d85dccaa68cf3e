-- A kept section adds the room of its block and one block, and any other adds nothing.
use mathlib.Core.Path.{ap}
use native.Mathlib.Omega.{arith}
use lib.ListN.{length}
use Rattle.fields.proofs.CountingLaws.{joined_none}
use Rattle.coff.specs.Handed.{part_in}
use Rattle.image.specs.Layout.{span_of}
use Rattle.image.proofs.ConvertLaws.{spans_none, spans_more, count_more, spans_left, spans_kept, part_small}
use Rattle.image.proofs.measuring.measure.Goals.{in-Some, in_default}
use Rattle.image.proofs.measuring.measure.Goals as goal

pub loop-i-init : goal.loop-i-init
loop-i-init c =
    let file = c.args.file.now in
    (rw (spans_none file.bytes.now file.sections), rw (joined_none (part_in file)), omega arith, omega arith)

pub overflow_add-length : goal.overflow_add-length
unfolding span_of
overflow_add-length c =
    omega (arith, c.span-length.ensures, c.in-Some.ensures.within, c.args.file.now.read.short, c.args.file.now.read.laid.few)

pub loop-i-preserved : goal.loop-i-preserved
loop-i-preserved c =
    let file = c.args.file.now in
    let f = file.bytes.now in
    let s = file.sections in
    let i = c.loop-i.i in
    let small = part_small f s file.read i c.loop-i-test.true in
    elim c.match-part_at.branch [
      | in-Some w ↦
          let t = w.in-Some.ensures in
          omega (arith, w.length-is, w.kept-is, w.span-length.ensures, spans_kept _ _ _ _ _ _ _ t, ap length t.part, spans_more f s i, count_more f s i, small)
      | in_default w ↦ omega (arith, w.length-is, w.kept-is, spans_left _ _ _ w.in_default.ensures, ap length w.in_default.ensures, spans_more f s i, count_more f s i)
    ]
