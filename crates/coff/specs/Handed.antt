-- The parts of a file that was read, which the crates above ask for.
use Rattle.std.specs.Prelude.{ℕ, List}
use Rattle.fields.specs.Program.{Numbered, Source}
use Rattle.coff.specs.declared.parts.Coff.{Coff}
use Rattle.coff.specs.Parts.{part_at, parts_of, source_of}

-- that of section i, or none
abbrev pub part_in : Coff → ℕ → List Numbered
part_in file i = part_at file.bytes.now file.sections i

-- all of them
abbrev pub parts_in : Coff → List Numbered
parts_in file = parts_of file.bytes.now file.sections

-- .. with the entry point
abbrev pub source_in : Coff → Source
source_in file = source_of file.bytes.now file.sections file.entry
