-- What is seen of an answer that holds bytes that were lent: all but where these stand.
use Rattle.std.specs.Prelude.{ℕ, List}
use Rattle.coff.specs.declared.parts.Coff.{Coff}
use Rattle.coff.specs.Answer.{Headers, headers_in}
use Rattle.image.specs.declared.Contents.{Contents}
use Rattle.image.specs.declared.blocks.Image.{Image}
use Rattle.image.specs.Handed.{contents_in}

-- of a file that was read: its sections, its entry point, and its bytes
abbrev pub file_seen : Coff → Headers × List ℕ
file_seen file = (headers_in file, file.bytes.now)

-- of an image: its entry point, how many blocks it has, its bytes, and the order that they are in
abbrev pub image_seen : Image → Contents × (List ℕ × ℕ)
image_seen image = (contents_in image, (image.bytes.now, image.order))
