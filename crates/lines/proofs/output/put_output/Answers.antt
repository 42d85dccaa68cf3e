-- What one more read may have brought: nothing, bytes behind a full buffer or behind less than a full one, or it failed.
use Prim.Native.Nat.{◌<◌}
use mathlib.Core.Path.{◌≡◌, refl}
use native.Mathlib.Omega.{arith}
use lib.ListN.{length, take}
use lib.Seq.{length-take-le}
use Rattle.lines.specs.Output.{printed_of, answered, unread}
use Rattle.lines.proofs.OutputLaws.{printed_partial, printed_over}
use Rattle.lines.proofs.output.put_output.Goals.{Start, in_default-via-in-Some+else-got-eq65536, in_default-via-in_default}
use Rattle.lines.proofs.output.put_output.Goals as goal

counted : (k : Start) → length (take k.args.got k.args.input.now) ≡ k.args.got
counted k = length-take-le _ _ (omega (arith, k.requires))

pub returns-in-Some-eq0 : goal.returns-in-Some-eq0
unfolding printed_of answered
returns-in-Some-eq0 c =
    let e : c.in-Some-eq0.field-0 ≡ 0 = omega arith in
    rw (c.in-Some-eq0.is, e)
    record {
      goes = refl;
      answers = c.put_listing.ensures.length;
      holds = c.put_listing.ensures.line;
    }

pub returns-in-Some : goal.returns-in-Some
unfolding answered
returns-in-Some c =
    let more : 0 < c.in-Some.field-0 = omega arith in
    let full : length (take c.args.got c.args.input.now) ≡ 65536 = omega (arith, counted (goal.at.returns-in-Some c).Start) in
    rw (c.in-Some.is, printed_over _ _ more full) c.put_word.ensures

pub returns-in_default : goal.returns-in_default
unfolding printed_of unread
returns-in_default c =
    let start = (goal.at.returns-in_default c).Start in
    elim c.in_default.branch [
      | in_default-via-in-Some+else-got-eq65536 w ↦
          let more : 0 < w.in-Some.field-0 = omega arith in
          let short : length (take c.args.got c.args.input.now) < 65536 = omega (arith, counted start, start.requires) in
          rw (w.in-Some.is, printed_partial _ _ more short) c.put_word-in_default.ensures
      | in_default-via-in_default w ↦ let i = w.in_default.is in rw i c.put_word-in_default.ensures
    ]
