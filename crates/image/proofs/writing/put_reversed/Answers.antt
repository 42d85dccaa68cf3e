-- The whole fours are reversed where they go, and behind them the number of what is left, with the padding as its upper bytes; together they are the area reversed.
use Prim.Native.Nat.{◌*◌, ◌/◌}
use mathlib.Core.Path.{◌≡◌, ap, ◌∙◌}
use native.Mathlib.Omega.{arith}
use lib.ListN.{length}
use Rattle.fields.specs.Patch.{patch}
use Rattle.fields.proofs.NumberLaws.{bytes_of}
use Rattle.image.proofs.AreaLaws.{area_exact, area_reversed}
use Rattle.image.proofs.writing.put_reversed.Goals as goal

pub returns-then-whole-raw : goal.returns-then-whole-raw
returns-then-whole-raw c =
    let a = c.args in
    let raw = a.raw.now in
    let e : length raw / 4 * 4 ≡ 4 * (length raw / 4) = omega arith in
    rw (c.put_u32.ensures, c.turned_number.ensures, c.last_number.ensures, c.put_fours.ensures, e)
    (area_reversed raw (bytes_of raw c.type_inv.raw) a.out.now a.at a.end c.requires.0 (omega arith))

pub returns-else-whole-raw : goal.returns-else-whole-raw
returns-else-whole-raw c =
    let a = c.args in
    c.put_fours.ensures ∙ ap (patch a.out.now a.at) (area_exact a.raw.now (omega arith))
