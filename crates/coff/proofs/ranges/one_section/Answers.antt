-- Each answer is the first of rules 10 to 12 that holds, by the tests that led to it.
use mathlib.Core.Path.{◌≡◌}
use native.Mathlib.Omega.{arith}
use Rattle.coff.specs.File.{section_of}
use Rattle.coff.specs.Headers.{section_at}
use Rattle.coff.proofs.SectionLaws.{section_is, begins_early, ends_late, load_over, run_over, sound}
use Rattle.coff.proofs.ranges.one_section.Goals.{After-header-header}
use Rattle.coff.proofs.ranges.one_section.Goals as goal

here : (k : After-header-header) → section_at k.header-header.result ≡ section_of k.args.headers.now.file.now k.args.i
here k = section_is _ _ k.args.i k.args.headers.now.laid.begins k.header-header.result k.header-header.ensures

pub returns-then-raw-headers : goal.returns-then-raw-headers
returns-then-raw-headers c =
    let e = here (goal.at.returns-then-raw-headers c).After-header-header in
    rw (c.at.ensures, ← e) (begins_early _ _ _ _ c.args.headers.now.laid (section_at c.header-header.result) (omega arith))

pub returns-then-headers-end : goal.returns-then-headers-end
returns-then-headers-end c =
    let e = here (goal.at.returns-then-headers-end c).After-header-header in
    rw (c.at-then-headers-end.ensures, ← e) (ends_late _ _ _ _ c.args.headers.now.laid (section_at c.header-header.result) (omega arith))

pub returns-then-end-gt4294967296 : goal.returns-then-end-gt4294967296
returns-then-end-gt4294967296 c =
    let e = here (goal.at.returns-then-end-gt4294967296 c).After-header-header in
    rw (c.at-then-end-gt4294967296.ensures, ← e) (load_over _ _ _ _ c.args.headers.now.laid (section_at c.header-header.result) (omega arith) (omega arith))

pub returns-then-end-gt4294967296-2 : goal.returns-then-end-gt4294967296-2
returns-then-end-gt4294967296-2 c =
    let e = here (goal.at.returns-then-end-gt4294967296-2 c).After-header-header in
    rw (c.at-then-end-gt4294967296-2.ensures, ← e) (run_over _ _ _ _ c.args.headers.now.laid (section_at c.header-header.result) (omega arith) (omega arith))

pub returns : goal.returns
returns c =
    let e = here (goal.at.returns c).After-header-header in
    rw (← e) (sound _ _ _ _ c.args.headers.now.laid (section_at c.header-header.result) (omega arith) (omega arith))
