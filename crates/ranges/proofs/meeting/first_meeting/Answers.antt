-- Where all ranges are stacked none meets another; else the search begins behind the first, which covers itself.
use native.Mathlib.Omega.{arith}
use Rattle.fields.proofs.CountingLaws.{any_none, found_none}
use Rattle.ranges.proofs.RowLaws.{here_first}
use Rattle.ranges.proofs.MeetingLaws.{searched_first, none_meets}
use Rattle.ranges.proofs.meeting.first_meeting.Goals as goal

pub returns-then-all-eq0 : goal.returns-then-all-eq0
returns-then-all-eq0 c = rw c.if-all-eq0.true (found_none _ 0 (any_none _))

pub range_at-b-requires : goal.range_at-b-requires
range_at-b-requires c = record { here = here_first _ _ c.first.ensures; more = omega arith }

pub returns-then-all-known : goal.returns-then-all-known
returns-then-all-known c = none_meets _ _ c.if-all-known.true c.stacked-known.ensures

pub search-requires : goal.search-requires
search-requires c =
    let range = rw c.first.ensures.number at c.range_at-b.ensures in
    record { searched = rw (c.of-cover.ensures.0, c.of-cover.ensures.1) (searched_first _ _ range (omega arith)); known_too = c.stacked-known.ensures }
