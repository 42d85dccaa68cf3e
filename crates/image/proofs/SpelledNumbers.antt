-- One number in an order: as it is read, and as it is written.
use Prim.Native.Nat.{ℕ}
use mathlib.Core.Path.{◌≡◌, refl, ap, ◌∙◌}
use mathlib.Core.Bool.{true, false}
use mathlib.Core.List.{List}
use lib.ListN.{length}
use Rattle.fields.specs.Number.{number, le32}
use Rattle.fields.specs.Turning.{turned, turned_if}
use Rattle.fields.proofs.NumberLaws.{little-number, length-le32}
use Rattle.fields.proofs.TurnedNumberLaws.{bytes_little}
use Rattle.ranges.specs.Row as row
use Rattle.image.specs.Layout.{number_bytes, span_of}
use Rattle.image.specs.Order.{turns_numbers, numbers_in, number_in}
use Rattle.image.specs.Steps.{row_in}
use Rattle.image.proofs.OrderLaws.{length_numbers, bytes_numbers}

-- written, its bytes stand reversed, or as they are
module _ (order n : ℕ) where
  spelled : le32 (number (numbers_in order (number_bytes n))) ≡ numbers_in order (number_bytes n)
  unfolding number_bytes le32
  spelled =
      let l : length (numbers_in order (le32 n)) ≡ 4 = length_numbers order (le32 n) ∙ length-le32 n in
      rw l at (little-number (numbers_in order (le32 n)) (bytes_numbers order (le32 n) (bytes_little 4 n)))

  turned_is : turns_numbers order ≡ true → turned (le32 n) ≡ numbers_in order (number_bytes n)
  unfolding numbers_in turned_if number_bytes
  turned_is h = rw h

  pub written_turned : turns_numbers order ≡ true → le32 (number (turned (le32 n))) ≡ numbers_in order (number_bytes n)
  written_turned h = ap (λ (xs : List ℕ). le32 (number xs)) (turned_is h) ∙ spelled

  pub written_itself : turns_numbers order ≡ false → le32 n ≡ numbers_in order (number_bytes n)
  unfolding numbers_in turned_if number_bytes
  written_itself h = rw h

-- read, it is one of the row of ranges that the blocks are
pub row_number : (order : ℕ) (s : List ℕ) (at : ℕ) → row.number_of (row_in order) s at ≡ number_in order s at
unfolding row.number_of number_in numbers_in
row_number order s at = refl

pub row_room : (order size : ℕ) → row.room_of (row_in order) size ≡ span_of size
unfolding row.room_of span_of
row_room order size = refl
