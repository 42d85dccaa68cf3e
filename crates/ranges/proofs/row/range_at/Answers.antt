-- Each number is read where the range has it, and the last address is the one before the end.
use mathlib.Core.Path.{refl, ◌∙◌}
use native.Mathlib.Omega.{arith}
use Rattle.ranges.specs.Row.{load_from, size_from, next_from}
use Rattle.ranges.proofs.RowLaws.{room_bounds}
use Rattle.ranges.proofs.row.range_at.Goals as goal

pub last_address-last-requires : goal.last_address-last-requires
unfolding load_from size_from
last_address-last-requires c =
    let stands = c.requires.stands in
    rw (c.number_at-size.ensures, c.number_at-first.ensures) (stands.real, stands.loads)

pub overflow_add-result : goal.overflow_add-result
overflow_add-result c = omega (arith, c.room.ensures, room_bounds c.args.row c.number_at-size.result)

pub returns : goal.returns
unfolding load_from size_from next_from
returns c =
    let size = c.number_at-size.ensures in
    let load = c.number_at-first.ensures in
    record {
      begins = load;
      ends = c.last_address-last.ensures ∙ rw (load, size);
      next = rw (c.room.ensures, size);
      one_on = refl;
    }
