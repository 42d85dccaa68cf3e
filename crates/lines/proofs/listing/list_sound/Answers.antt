-- Whether the text is over the room decides rule 15 before it is written.
use mathlib.Core.Path.{sym}
use borrow.Author.Tests.{ltb-false}
use lib.ListN.{length}
use Rattle.lines.specs.Handed.{text_in}
use Rattle.lines.specs.Listing.{listed_of, buffer_after}
use Rattle.lines.proofs.ListingLaws.{too_short, fits}
use Rattle.lines.proofs.listing.list_sound.Goals as goal

pub returns-then-is_over-clause-answers : goal.returns-then-is_over-clause-answers
unfolding listed_of
returns-then-is_over-clause-answers c =
    rw (too_short (text_in c.args.file.now) (length c.args.text.now) (sym c.if-is_over.ensures))

pub returns-then-is_over-clause-leaves : goal.returns-then-is_over-clause-leaves
unfolding buffer_after
returns-then-is_over-clause-leaves c =
    rw (too_short (text_in c.args.file.now) (length c.args.text.now) (sym c.if-is_over.ensures))

pub returns-clause-answers : goal.returns-clause-answers
unfolding listed_of
returns-clause-answers c =
    rw (fits (text_in c.args.file.now) (length c.args.text.now) (ltb-false _ _ (sym c.if-is_over.ensures)), c.put.ensures.length)

pub returns-clause-leaves : goal.returns-clause-leaves
unfolding buffer_after
returns-clause-leaves c =
    rw (fits (text_in c.args.file.now) (length c.args.text.now) (ltb-false _ _ (sym c.if-is_over.ensures))) c.put.ensures.text
