-- What is read through a section's header where it stands.
use Rattle.coff.specs.declared.section.Header.{Header}
use Rattle.coff.specs.File.{Section, header_at}

-- the header's fields
abbrev pub section_at : Header → Section
section_at h = header_at h.file.now h.at
