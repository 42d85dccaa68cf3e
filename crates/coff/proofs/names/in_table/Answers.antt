-- The tests are those of a name in the table: the offset, the table's size, and a zero byte between the name's first byte and the end of table and file.
use Prim.Native.Nat.{◌+◌, ◌*◌}
use mathlib.Core.Path.{◌≡◌}
use native.Mathlib.Omega.{arith}
use Rattle.coff.specs.File.{symbols_begin, symbol_count}
use Rattle.coff.specs.Names.{strings_begin, name_offset}
use Rattle.coff.proofs.NameLaws.{Room, offset_early, table_cut, behind_table, never_ends, in_table}
use Rattle.coff.proofs.names.in_table.Goals.{After-u32_at-2, After-min-end}
use Rattle.coff.proofs.names.in_table.Goals as goal

-- where the table begins, by the two fields of the file header
table_is : (k : After-u32_at-2) → k.u32_at.result + 18 * k.u32_at-2.result ≡ strings_begin k.args.header.now.file.now
unfolding strings_begin symbols_begin symbol_count
table_is k = omega arith

room : (k : After-min-end) → k.u32_at.result + 18 * k.u32_at-2.result ≡ strings_begin k.args.header.now.file.now → Room k.args.header.now.file.now k.args.header.now.at k.u32_at-offset.result (k.u32_at.result + 18 * k.u32_at-2.result + k.u32_at-offset.result) k.min-end.result
unfolding name_offset
room k table =
    record {
      whole = omega (arith, table);
      by_offset = k.u32_at-offset.ensures;
      begins = omega (arith, table);
      ends = rw (← table, ← k.u32_at-size.ensures) k.min-end.ensures;
    }

pub returns-then-offset-lt4 : goal.returns-then-offset-lt4
unfolding name_offset
returns-then-offset-lt4 c = offset_early _ _ c.requires (omega arith)

pub returns-then-f-behind : goal.returns-then-f-behind
returns-then-f-behind c =
    table_cut _ _ c.requires (omega (arith, table_is (goal.at.returns-then-f-behind c).After-u32_at-2))

pub returns-in_err-rest : goal.returns-in_err-rest
returns-in_err-rest c =
    let at = goal.at.returns-in_err-rest c in
    rw c.from_residual.ensures (behind_table _ _ c.requires (room at.After-min-end (table_is at.After-u32_at-2)) (omega (arith, c.in_err-rest.ensures.lookup)))

pub returns-then-rest-long : goal.returns-then-rest-long
returns-then-rest-long c =
    let at = goal.at.returns-then-rest-long c in
    let look = c.in_ok-rest.ensures.lookup in
    never_ends _ _ c.requires (room at.After-min-end (table_is at.After-u32_at-2)) look.0.0 _ look.0.2 _ c.before_zero-long.ensures c.if-rest-long.true

pub returns : goal.returns
returns c =
    let at = goal.at.returns c in
    let look = c.in_ok-rest.ensures.lookup in
    in_table _ _ c.requires (room at.After-min-end (table_is at.After-u32_at-2)) look.0.0 _ look.0.2 _ c.before_zero-long.ensures c.if-rest-long.false c.if-offset-lt4.false
