-- How the writer spells an image in an order, block by block. Only the promises of its own functions cite these words.
use Rattle.std.specs.Prelude.{ℕ, List, [], ◌∷◌, ◌++◌, take, drop}
use Rattle.fields.specs.Program.{Block, Program}
use Rattle.image.specs.Layout.{number_bytes, image_of_block}
use Rattle.image.specs.Order.{numbers_in, area_in}

-- its three fields, and its data area
unfoldable pub spelled_block : ℕ → Block → List ℕ
spelled_block order b = numbers_in order (take 12 (image_of_block b)) ++ area_in order (drop 12 (image_of_block b))

unfoldable pub spelled_blocks : ℕ → List Block → List ℕ
spelled_blocks order [] = []
spelled_blocks order (b ∷ bs) = spelled_block order b ++ spelled_blocks order bs

unfoldable pub spelled : ℕ → Program → List ℕ
spelled order p = numbers_in order (number_bytes p.entry) ++ (spelled_blocks order p.blocks ++ number_bytes 0)
