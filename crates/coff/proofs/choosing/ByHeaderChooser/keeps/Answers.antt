-- Without patterns the header decides alone.
use mathlib.Core.Path.{refl, ap, ◌∙◌}
use Rattle.coff.specs.Kept.{is_kept}
use Rattle.coff.proofs.SectionLaws.{section_is}
use Rattle.coff.proofs.ChoosingLaws.{header_decides}
use Rattle.coff.proofs.choosing.ByHeaderChooser.keeps.Goals as goal

pub returns : goal.returns
returns c =
    header_decides _ _ c.args.i refl _ (c.is_kept.ensures ∙ ap is_kept (section_is _ _ c.args.i c.args.headers.now.laid.begins c.header.result c.header.ensures))
