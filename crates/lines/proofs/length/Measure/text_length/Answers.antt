-- Head, lines and foot are as long as they are measured, and the text is these three.
use native.Mathlib.Omega.{arith}
use Rattle.lines.proofs.LineLaws.{length_head, length_image_line}
use Rattle.lines.proofs.TextLaws.{length_text}
use Rattle.lines.proofs.length.Measure.text_length.Goals as goal

pub returns : goal.returns
returns c =
    let m = c.args.self.now in
    omega (arith, length_text m, length_head m.file.now.sections.count m.figures.kept m.file.now.entry, length_image_line m.figures.length)
