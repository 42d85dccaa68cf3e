-- The row of the blocks is searched, whose ranges are theirs.
use mathlib.Core.Path.{◌∙◌}
use Rattle.image.proofs.MeetingLaws.{blocks_lined, first_block}
use Rattle.image.proofs.meeting.first_meeting.Goals as goal

pub invariant_of-first_meeting : goal.invariant_of-first_meeting
invariant_of-first_meeting c =
    let known = c.requires in
    record { lined = rw c.row_in.ensures (blocks_lined _ _ known.0 _ known.1) }

pub returns : goal.returns
returns c =
    let known = c.requires in
    c.first_meeting.ensures ∙ rw c.row_in.ensures (first_block _ _ known.0 _ known.1)
