-- A block as it stands in an image, and the block that it is.
use Rattle.fields.specs.Program.{Block}
use Rattle.compare.specs.declared.stored.Stored.{Stored}
use Rattle.compare.specs.Matching.{block_in}

abbrev pub block_of : Stored → Block
block_of s = block_in s.order s.area.now s.part
