use mathlib.Core.Path.{◌≡◌, sym}
use native.Mathlib.Omega.{arith}
use Rattle.fields.proofs.RuleLaws.{silent_done}
use Rattle.coff.specs.Handed.{part_in}
use Rattle.loader.proofs.CoffParts.{left_fits, kept_fits, kept_fails}
use Rattle.loader.proofs.PlacingLaws.{none_asked, first_fails, fits_turn}
use Rattle.loader.proofs.from_coff.fit_parts.Goals.{in-Some+else-not-holds, in_default}
use Rattle.loader.proofs.from_coff.fit_parts.Goals as goal

pub loop-i-init : goal.loop-i-init
loop-i-init c = none_asked _ _ _

pub returns-then-not-holds : goal.returns-then-not-holds
returns-then-not-holds c =
    let l = c.loop-i in
    let fails = kept_fails c.in-Some.ensures _ _ c.holds.ensures c.if-not-holds.true in
    rw c.at.ensures (first_fails (part_in c.args.file.now) _ _ _ l.i (omega arith) l.invariant fails)

pub loop-i-preserved : goal.loop-i-preserved
loop-i-preserved c =
    let l = c.loop-i in
    fits_turn (part_in c.args.file.now) l.i _ _ l.invariant
    (elim c.match-part_at.branch [
      | in-Some+else-not-holds w ↦ kept_fits w.in-Some.ensures _ _ w.holds.ensures w.if-not-holds.false
      | in_default w ↦ left_fits _ _ _ w.in_default.ensures _ _
    ])

pub returns : goal.returns
returns c =
    let l = c.loop-i in
    let e : l.i ≡ c.args.file.now.sections.count = omega arith in
    sym (silent_done _ tt (rw e at l.invariant))
