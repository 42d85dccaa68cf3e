-- The text of a file that was read.
use Rattle.std.specs.Prelude.{ℕ, List}
use Rattle.coff.specs.declared.parts.Coff.{Coff}
use Rattle.coff.specs.File.{section_count}
use Rattle.coff.specs.Handed.{source_in}
use Rattle.lines.specs.Text.{text_of}

abbrev pub text_in : Coff → List ℕ
text_in file = text_of (section_count file.bytes.now) (source_in file)
