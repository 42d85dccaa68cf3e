-- Each way out is one way a load ends, by the reader's stated result.
use mathlib.Core.Path.{◌≡◌, sym}
use Rattle.std.proofs.lemmas.Result.{err_from_is_err_and}
use Rattle.fields.specs.Rules.{done}
use Rattle.fields.proofs.RuleLaws.{done_silent}
use Rattle.image.specs.Handed.{source_of_image}
use Rattle.image.specs.Order.{undone}
use Rattle.image.specs.Reading.{read_image}
use Rattle.image.proofs.HandedLaws.{image_reads, image_refused}
use Rattle.loader.proofs.LoadingLaws.{without_window, without_source, with_one_outside, with_all_inside}
use Rattle.loader.proofs.from_image.load_ordered.Goals.{In_ok-image}
use Rattle.loader.proofs.from_image.load_ordered.Goals as goal

-- what is read where the image is not refused
reads : (k : In_ok-image) → read_image (undone k.args.order k.args.s.now) ≡ done (source_of_image k.in_ok-image.image)
reads k = image_reads _ _ k.in_ok-image.image k.in_ok-image.ensures.answers k.in_ok-image.ensures.image

pub returns-in_err-addresses : goal.returns-in_err-addresses
returns-in_err-addresses c =
    let p = err_from_is_err_and c.from_residual.result c.from_residual.ensures.1 in
    let ends = without_window _ _ _ _ c.in_err-addresses.ensures.answers in
    rw (p.1, p.2) (record { answers = ends.answers; leaves = ends.leaves })

pub returns-in_err-image : goal.returns-in_err-image
returns-in_err-image c =
    let p = err_from_is_err_and c.from_residual-in_err-image.result c.from_residual-in_err-image.ensures.1 in
    let ends = without_source _ _ _ _ c.in_ok-addresses.ensures.answers (image_refused _ _ c.in_err-image.ensures.answers) in
    rw (p.1, p.2) (record { answers = ends.answers; leaves = ends.leaves })

pub returns-in_err-fit_blocks : goal.returns-in_err-fit_blocks
returns-in_err-fit_blocks c =
    let p = err_from_is_err_and c.from_residual-in_err-fit_blocks.result c.from_residual-in_err-fit_blocks.ensures.1 in
    let w = c.in_ok-addresses.ensures in
    let ends = with_one_outside _ _ _ _ w.answers (reads (goal.at.returns-in_err-fit_blocks c).In_ok-image) (rw (w.window.0, w.window.1) at c.in_err-fit_blocks.ensures) in
    rw (p.1, p.2) (record { answers = ends.answers; leaves = ends.leaves })

pub place_blocks-requires : goal.place_blocks-requires
place_blocks-requires c =
    let w = c.in_ok-addresses.ensures.window in
    (done_silent _ tt tt (sym (rw (w.0, w.1) at c.in_ok-fit_blocks.ensures))).0

pub returns : goal.returns
returns c =
    let w = c.in_ok-addresses.ensures in
    let placing = c.place_blocks.ensures in
    let ends = with_all_inside _ _ _ _ w.answers (reads (goal.at.returns c).In_ok-image) (rw (w.window.0, w.window.1) at c.in_ok-fit_blocks.ensures) placing.0 placing.1 in
    record { answers = ends.answers; leaves = ends.leaves }
