-- Text put into a lent buffer, piece after piece.
use Rattle.std.specs.Prelude.{ℕ, ◌+◌, ◌≡◌, List, length}
use Rattle.lines.specs.declared.output.Stream.{Stream}
use Rattle.lines.specs.declared.piece.Text.{Text}
use Rattle.fields.specs.Patch.{patch}
use Rattle.lines.specs.Output.{Printed}

-- `bytes` are put behind the text that was `old`, into the same buffer
pub record Puts (old : Text) (bytes : List ℕ) (new : Text) : Type 0 where
  pub ends : new.end ≡ old.end + length bytes
  pub holds : new.bytes.now ≡ patch old.bytes.now old.end bytes
  pub room : length new.bytes.now ≡ length old.bytes.now
  pub same_reference : new.bytes.ghost_name ≡ old.bytes.ghost_name

-- what the listing program prints is put into a buffer: the stream it goes to, how long it is, and the buffer afterwards
pub record Prints (p : Printed) (old : List ℕ) (stream : Stream) (answer : ℕ) (new : List ℕ) : Type 0 where
  pub goes : stream ≡ p.stream
  pub answers : answer ≡ length p.text
  pub holds : new ≡ patch old 0 p.text
