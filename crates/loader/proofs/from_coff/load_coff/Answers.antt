-- Each way out is one way a load ends, by the reader's stated result; refused options end it before all others.
use mathlib.Core.Path.{◌≡◌, sym, ◌∙◌}
use mathlib.Core.Bool.{true, false}
use lib.ListN.{length}
use Rattle.std.proofs.lemmas.Result.{err_from_is_err_and}
use Rattle.fields.specs.Rules.{done}
use Rattle.fields.specs.Options.{are_refused}
use Rattle.fields.specs.Program.{blocks_of}
use Rattle.fields.proofs.RuleLaws.{done_silent}
use Rattle.patterns.specs.Row.{options_of}
use Rattle.coff.specs.Reading.{read_coff}
use Rattle.coff.specs.Handed.{source_in}
use Rattle.coff.proofs.AcceptedLaws.{accepted, refused_file}
use Rattle.coff.proofs.OrderLaws.{row_order_passes}
use Rattle.loader.specs.Loading.{loading, loading_coff}
use Rattle.loader.proofs.LoadingLaws.{without_window, without_source, with_one_outside, with_all_inside, not_asked, asked}
use Rattle.loader.proofs.from_coff.load_coff.Goals.{Then-are_refused, Else-are_refused, In-Ok}
use Rattle.loader.proofs.from_coff.load_coff.Goals as goal

refused_first : (k : Then-are_refused) → are_refused (options_of k.args.patterns.now).patterns ≡ true
unfolding options_of
refused_first k = sym k.are_refused.ensures ∙ k.if-are_refused.true

passed : (k : Else-are_refused) → are_refused (options_of k.args.patterns.now).patterns ≡ false
unfolding options_of
passed k = sym k.are_refused.ensures ∙ k.if-are_refused.false

-- what is left is a load of what the reader hands on: a file has no order
load_of : (k : Else-are_refused) → loading_coff (options_of k.args.patterns.now) k.args.f.now k.args.base (length k.args.window.now) ≡ loading (read_coff (options_of k.args.patterns.now) k.args.f.now) k.args.base (length k.args.window.now)
load_of k = asked _ _ _ _ (passed k) (row_order_passes _)

-- what is read where the file is not refused
reads : (k : In-Ok) → read_coff (options_of k.args.patterns.now) k.args.f.now ≡ done (source_in k.in-Ok.file)
reads k = rw (rw k.in-Ok.is at k.read.ensures.file) ((accepted _ _ (sym (rw k.in-Ok.is at k.read.ensures.answers))).reads)

pub returns-then-are_refused : goal.returns-then-are_refused
returns-then-are_refused c =
    rw c.into.ensures (not_asked _ _ _ _ (refused_first (goal.at.returns-then-are_refused c).Then-are_refused) _)

pub returns-in_err-addresses : goal.returns-in_err-addresses
returns-in_err-addresses c =
    let p = err_from_is_err_and c.from_residual.result c.from_residual.ensures.1 in
    rw (p.1, p.2, load_of (goal.at.returns-in_err-addresses c).Else-are_refused)
    (without_window _ _ _ _ c.in_err-addresses.ensures.answers)

pub returns-in-Err : goal.returns-in-Err
returns-in-Err c =
    rw (load_of (goal.at.returns-in-Err c).Else-are_refused)
    (without_source _ _ _ _ c.in_ok-addresses.ensures.answers (refused_file _ _ (sym (rw c.in-Err.is at c.read.ensures.answers))))

pub returns-in_err-fit_parts-in-Ok : goal.returns-in_err-fit_parts-in-Ok
returns-in_err-fit_parts-in-Ok c =
    let p = err_from_is_err_and c.from_residual-in_err-fit_parts-in-Ok.result c.from_residual-in_err-fit_parts-in-Ok.ensures.1 in
    let w = c.in_ok-addresses.ensures in
    rw (p.1, p.2, load_of (goal.at.returns-in_err-fit_parts-in-Ok c).Else-are_refused)
    (with_one_outside _ _ _ _ w.answers (reads (goal.at.returns-in_err-fit_parts-in-Ok c).In-Ok) (rw (w.window.0, w.window.1) at c.in_err-fit_parts-in-Ok.ensures))

pub place_parts-requires : goal.place_parts-requires
place_parts-requires c =
    let w = c.in_ok-addresses.ensures.window in
    (done_silent _ tt tt (sym (rw (w.0, w.1) at c.in_ok-fit_parts-in-Ok.ensures))).0

pub returns-in_ok-fit_parts-in-Ok : goal.returns-in_ok-fit_parts-in-Ok
unfolding blocks_of
returns-in_ok-fit_parts-in-Ok c =
    let w = c.in_ok-addresses.ensures in
    let placing = c.place_parts.ensures in
    rw (load_of (goal.at.returns-in_ok-fit_parts-in-Ok c).Else-are_refused)
    (with_all_inside _ _ _ _ w.answers (reads (goal.at.returns-in_ok-fit_parts-in-Ok c).In-Ok) (rw (w.window.0, w.window.1) at c.in_ok-fit_parts-in-Ok.ensures) placing.0 placing.1)
