-- Head, lines and foot follow one another and are the text; where there is room for it there is room for each.
use mathlib.Core.Path.{ap}
use native.Mathlib.Omega.{arith}
use lib.ListN.{length}
use borrow.Author.Rules.{rules}
use Rattle.lines.proofs.PutLaws.{puts_then}
use Rattle.lines.proofs.TextLaws.{text_parts, length_text}
use Rattle.lines.proofs.length.Measure.put.Goals as goal

pub head-requires : goal.head-requires
head-requires c = omega (arith, length_text c.args.self.now, ap length c.new-text.ensures.nothing_put.0)

pub put_parts-requires : goal.put_parts-requires
put_parts-requires c = omega (arith, length_text c.args.self.now, ap length c.new-text.ensures.nothing_put.0)

pub image-requires : goal.image-requires
image-requires c = omega (arith, length_text c.args.self.now, ap length c.new-text.ensures.nothing_put.0)

pub returns-clause-length : goal.returns-clause-length
returns-clause-length c = omega (arith, length_text c.args.self.now, ap length c.new-text.ensures.nothing_put.0)

pub returns-clause-text : goal.returns-clause-text
returns-clause-text c =
    let start = c.new-text.ensures in
    let all = rw (← (text_parts c.args.self.now), start.nothing_put.0, start.nothing_put.1) at (puts_then c.head.ensures (puts_then c.put_parts.ensures c.image.ensures)).holds in
    let same = (puts_then c.head.ensures (puts_then c.put_parts.ensures c.image.ensures)).same_reference in
    search rules
