-- A section that is left changes nothing; one that is kept is compared, or need not be, and is the first that meets or ends at the new top.
use mathlib.Core.Path.{◌≡◌, sym, ◌∙◌}
use native.Mathlib.Omega.{arith}
use Rattle.fields.proofs.CountingLaws.{any_none}
use Rattle.fields.proofs.RuleLaws.{silent_none}
use Rattle.coff.specs.File.{section_count, section_of}
use Rattle.coff.specs.Headers.{section_at}
use Rattle.coff.proofs.SectionLaws.{section_is}
use Rattle.coff.proofs.JudgingLaws.{passes}
use Rattle.coff.proofs.OverlapLaws.{silent_turn, clear_left, topped_left, clear_at_once, topped_kept, clear_more, meeting}
use Rattle.coff.proofs.overlap.all_pairs.Goals.{then-top-load, else-top-load, then-has+else-loop-j-test, else-has, then-count-i, else-count-i+then-has+then-loop-j-test+then-has-meet, After-header-later}
use Rattle.coff.proofs.overlap.all_pairs.Goals as goal

here : (k : After-header-later) → section_at k.header-later.result ≡ section_of k.args.headers.now.file.now k.pairs.i
here k = section_is _ _ k.pairs.i k.args.headers.now.laid.begins k.header-later.result k.header-later.ensures

pub pairs-init : goal.pairs-init
pairs-init c = record { low = omega arith; silent = silent_none _; topped = λ k b. absurd (omega arith) }

pub loop-j-init : goal.loop-j-init
loop-j-init c =
    let later = here (goal.at.loop-j-init c).After-header-later in
    let marked = sym c.has.ensures ∙ c.if-has.true in
    elim c.if-top-load.branch [
      | then-top-load w ↦ rw w.first-is (record { low = omega arith; clear = clear_at_once _ _ _ marked _ later _ c.pairs.invariant.topped (omega arith) })
      | else-top-load w ↦ rw w.first-is (record { low = omega arith; clear = any_none _ })
    ]

pub loop-j-preserved : goal.loop-j-preserved
loop-j-preserved c =
    let later = here (goal.at.loop-j-preserved c).After-header-later in
    let marked = sym c.has.ensures ∙ c.if-has.true in
    let first = section_is _ _ c.loop-j.j c.args.headers.now.laid.begins c.header.result c.header.ensures in
    record {
      low = omega arith;
      clear = clear_more _ _ _ marked _ later _ _ first _ c.has-in-loop-j.ensures (rw c.meet.ensures at c.if-has-meet.false) c.loop-j.invariant.clear;
    }

pub pairs-preserved : goal.pairs-preserved
pairs-preserved c =
    elim c.if-has.branch [
      | then-has+else-loop-j-test w ↦
          let marked = sym c.has.ensures ∙ w.if-has.true in
          let later = section_is _ _ c.pairs.i c.args.headers.now.laid.begins w.header-later.result w.header-later.ensures in
          let all : w.loop-j.j ≡ c.pairs.i = omega arith in
          record {
            low = omega arith;
            silent = silent_turn _ _ _ (rw all at w.loop-j.invariant.clear) c.pairs.invariant.silent;
            topped = rw w.top-is (topped_kept _ _ _ marked _ later _ _ c.pairs.invariant.topped (omega arith));
          }
      | else-has w ↦
          let left = sym c.has.ensures ∙ w.if-has.false in
          record {
            low = omega arith;
            silent = silent_turn _ _ _ (clear_left _ _ _ left) c.pairs.invariant.silent;
            topped = rw w.top-is (topped_left _ _ _ left _ c.pairs.invariant.topped);
          }
    ]

pub returns-in-Some : goal.returns-in-Some
returns-in-Some c =
    let begins = c.args.headers.now.laid.begins in
    elim c.if-count-i.branch [
      | then-count-i w ↦ cc
      | else-count-i+then-has+then-loop-j-test+then-has-meet w ↦
          let found : c.in-Some.index ≡ c.pairs.i = cc in
          let marked = sym w.has.ensures ∙ w.if-has.true in
          let later = section_is _ _ c.pairs.i begins w.header-later.result w.header-later.ensures in
          let first = section_is _ _ w.loop-j.j begins w.header.result w.header.ensures in
          rw (c.at.ensures, found) (meeting _ _ _ marked _ later _ _ first _ w.has-in-loop-j.ensures _ (rw w.meet.ensures at w.if-has-meet.true) w.loop-j-test.true (omega arith) c.pairs.invariant.silent)
    ]

pub returns-in-None : goal.returns-in-None
returns-in-None c =
    elim c.if-count-i.branch [
      | then-count-i w ↦ let e : c.pairs.i ≡ section_count c.args.headers.now.file.now = omega arith in passes _ (rw e at c.pairs.invariant.silent)
      | else-count-i+then-has+then-loop-j-test+then-has-meet w ↦ cc
    ]
