-- The mark decides, and the header says the rest.
use mathlib.Core.Path.{sym, ◌∙◌}
use Rattle.coff.proofs.SectionLaws.{section_is}
use Rattle.coff.proofs.PartLaws.{part_left, part_kept}
use Rattle.coff.proofs.parts.Coff.part_at.Goals as goal

pub returns-then-not-has : goal.returns-then-not-has
returns-then-not-has c = part_left _ _ _ (sym c.has.ensures ∙ c.if-not-has.true)

pub returns : goal.returns
returns c =
    let file = c.args.self.now in
    let here = section_is file.bytes.now file.sections.at c.args.i file.read.laid.begins c.header-header.result c.header-header.ensures in
    rw (c.size.ensures, c.load.ensures, c.run.ensures, c.raw.ensures, here) (part_kept _ _ _ file.read c.requires (sym c.has.ensures ∙ c.if-not-has.false))
