-- What the listing program prints, and on which stream.
use Rattle.std.specs.Prelude.{ℕ, zero, suc, cond, List, length, ltb, eqb, Option, None, Some}
use Rattle.lines.specs.declared.output.Stream.{Stream}
use Rattle.lines.specs.declared.output.Stream.TheVariants as stream
use Rattle.lines.specs.Text.{ascii, listing_of}

abbrev pub too_long : List ℕ
too_long = ascii "input over 65536\n"

-- for a whole input
unfoldable pub output_of : List ℕ → List ℕ
output_of input = cond (ltb 65536 (length input)) too_long (listing_of input)

-- a text, and the stream that it goes to
pub record Printed : Type 0 where
  pub stream : Stream
  pub text : List ℕ

unfoldable pub answered : List ℕ → Printed
answered text = record { stream = stream.Output; text = text }

unfoldable pub unread : Printed
unread = record { stream = stream.Error; text = ascii "input could not be read\n" }

-- as the program sees its input: the bytes that came until its buffer was full or nothing came, and what one more read answered,
-- which is 0 at the end of the input, none if it failed, and else how many bytes it brought
unfoldable pub printed_of : List ℕ → Option ℕ → Printed
printed_of f None = unread
printed_of f (Some zero) = answered (listing_of f)
printed_of f (Some (suc more)) = cond (eqb (length f) 65536) (answered too_long) unread
