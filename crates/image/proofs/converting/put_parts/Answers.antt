-- A kept section is one block, whose bytes are the part of the file that its header names; any other adds nothing.
use mathlib.Core.Path.{refl, ◌∙◌}
use native.Mathlib.Omega.{arith}
use Rattle.fields.proofs.PatchLaws.{patch_nil}
use Rattle.image.proofs.ConvertLaws.{spans_none, image_none, spans_more, spans_left, spans_piece, piece_long, image_kept, image_turn_left, room_left, image_turn}
use Rattle.image.proofs.converting.put_parts.Goals.{in-Some, in_default}
use Rattle.image.proofs.converting.put_parts.Goals as goal

pub loop-i-init : goal.loop-i-init
loop-i-init c =
    let file = c.args.file.now in
    (rw (spans_none file.bytes.now file.sections), refl, rw (image_none file.bytes.now file.sections c.args.order, patch_nil))

pub put_block-to-requires : goal.put_block-to-requires
put_block-to-requires c =
    let file = c.args.file.now in
    let t = c.in-Some.ensures in
    let room = room_left file.bytes.now file.sections c.loop-i.i c.loop-i-test.true in
    rw c.bytes_of.ensures (omega (arith, room, spans_piece _ _ _ _ _ _ _ t, piece_long _ _ _ _ _ _ _ t, file.read.short, t.within))

pub loop-i-preserved : goal.loop-i-preserved
loop-i-preserved c =
    let file = c.args.file.now in
    let f = file.bytes.now in
    let s = file.sections in
    let loop = c.loop-i in
    elim c.match-part_at.branch [
      | in-Some w ↦
          let t = w.in-Some.ensures in
          let call = rw w.bytes_of.ensures at w.put_block-to.ensures in (
            omega (arith, w.to-is, call.answers, spans_piece _ _ _ _ _ _ _ t, spans_more f s loop.i),
            omega (arith, c.match-part_at.auto.out),
            w.out-is ∙ call.leaves ∙ rw (image_kept _ _ _ _ _ _ _ t c.args.order, loop.invariant.2) (image_turn f s c.args.order loop.i c.args.out.now loop.to loop.invariant.0),
          )
      | in_default w ↦
          let none = w.in_default.ensures in (
            omega (arith, w.to-is, spans_left _ _ _ none, spans_more f s loop.i),
            omega (arith, c.match-part_at.auto.out),
            w.out-is ∙ rw loop.invariant.2 (image_turn_left f s c.args.order loop.i none c.args.out.now),
          )
    ]
