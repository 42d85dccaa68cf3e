-- The parts of a file one by one, as the check goes through them for a block. Only the check's own functions cite these words.
use Rattle.std.specs.Prelude.{ℕ, ◌+◌, ◌<◌, ◌≤◌, ◌≡◌, length, true, false, Option, None, Some}
use Rattle.std.specs.declared.ops.ControlFlow.{ControlFlow}
use Rattle.std.specs.declared.ops.ControlFlow.TheVariants.{Continue, Break}
use Rattle.fields.specs.Counting.{joined}
use Rattle.fields.specs.Program.{Block, blocks_of_parts}
use Rattle.coff.specs.declared.parts.Coff.{Coff}
use Rattle.coff.specs.Handed.{part_in, parts_in}
use Rattle.compare.specs.Matching.{matching_of, is_matched}

-- how many bytes of c the parts of the first n sections match
unfoldable pub matched_below : Coff → ℕ → Block → ℕ
matched_below file n c = matching_of (blocks_of_parts (joined (part_in file) n)) c

-- some byte of c is left, and there is room for what the sections from `from` up to `to` match
pub record Room (file : Coff) (from to : ℕ) (c : Block) (had : ℕ) : Type 0 where
  pub left : had < length c.bytes
  pub enough : had + matched_below file to c ≤ length c.bytes + matched_below file from c

-- what the sections from `from` up to `to` match is added to what was had before: it ends at a section of these, or some byte is left
abbrev pub Scanned : Coff → ℕ → ℕ → Block → ℕ → ControlFlow ℕ ℕ → Type 0
Scanned file from to c had (Break section) = (section < to) × (length c.bytes + matched_below file from c ≡ had + matched_below file to c)
Scanned file from to c had (Continue matched) = (matched + matched_below file from c ≡ had + matched_below file to c) × (matched < length c.bytes)

-- a section where every byte of c is matched, and else none
abbrev pub Found : Coff → Block → Option ℕ → Type 0
Found file c (Some section) = (section < file.sections.count) × (is_matched (blocks_of_parts (parts_in file)) c ≡ true)
Found file c None = is_matched (blocks_of_parts (parts_in file)) c ≡ false
