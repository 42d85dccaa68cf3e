-- A refused file refuses the listing, which leaves the buffer; of an accepted one rule 15 decides.
use mathlib.Core.Path.{◌≡◌, sym}
use lib.ListN.{length}
use Rattle.std.proofs.lemmas.Result.{err_from_is_err_and}
use Rattle.fields.specs.Rules.{unless}
use Rattle.patterns.specs.Row.{patterns_in, options_of}
use Rattle.coff.proofs.AcceptedLaws.{refused_file}
use Rattle.lines.specs.Handed.{text_in}
use Rattle.lines.specs.Listing.{text_rules, listing}
use Rattle.lines.proofs.ListingLaws.{file_refused, file_asked, numbers_are}
use Rattle.lines.proofs.listing.list.Goals.{In_ok-file}
use Rattle.lines.proofs.listing.list.Goals as goal

-- an empty row of patterns asks for nothing
pub returns-in_err-file : goal.returns-in_err-file
unfolding patterns_in options_of
returns-in_err-file c =
    let p = err_from_is_err_and c.from_residual.result c.from_residual.ensures.1 in
    let all = file_refused c.args.f.now (length c.args.text.now) (refused_file _ _ (sym c.in_err-file.ensures.answers)) c.args.text.now in
    rw (p.1, p.2)
    record {
      answers = all.0;
      numbers = numbers_are _ all.0;
      leaves = all.1;
    }

-- what is listed is what was read
read : (k : In_ok-file) → listing k.args.f.now (length k.args.text.now) ≡ unless (text_rules (text_in k.in_ok-file.file) (length k.args.text.now)) (text_in k.in_ok-file.file)
unfolding patterns_in options_of
read k =
    let told = k.in_ok-file.ensures in
    file_asked k.args.f.now (length k.args.text.now) k.in_ok-file.file told.answers told.file

pub returns-in_err-list_sound : goal.returns-in_err-list_sound
returns-in_err-list_sound c =
    let r = c.from_residual-in_err-list_sound in
    let p = err_from_is_err_and r.result r.ensures.1 in
    let sound = c.in_err-list_sound.ensures in
    rw (read (goal.at.returns-in_err-list_sound c).In_ok-file, p.1, p.2)
    record {
      answers = sound.answers;
      numbers = numbers_are _ sound.answers;
      leaves = sound.leaves;
    }

pub returns : goal.returns
returns c =
    let sound = c.in_ok-list_sound.ensures in
    rw (read (goal.at.returns c).In_ok-file)
    record {
      answers = sound.answers;
      numbers = numbers_are _ sound.answers;
      leaves = sound.leaves;
    }
