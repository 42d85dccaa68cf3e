-- What is handed on of an image that was read.
use Rattle.std.specs.Prelude.{List, ℕ}
use Rattle.fields.specs.Program.{Block, Source}
use Rattle.image.specs.declared.Contents.{Contents}
use Rattle.image.specs.declared.blocks.Image.{Image}
use Rattle.image.specs.Order.{undone}
use Rattle.image.specs.Reading.{blocks_in, image_source}

-- its bytes after undoing
abbrev pub undone_in : Image → List ℕ
undone_in image = undone image.order image.bytes.now

abbrev pub blocks_of_image : Image → List Block
blocks_of_image image = blocks_in (undone_in image)

abbrev pub source_of_image : Image → Source
source_of_image image = image_source (undone_in image)

-- its entry point, and how many blocks it has
abbrev pub contents_in : Image → Contents
contents_in image = record { entry = image.entry; blocks = image.blocks }
