-- The version of the library, 1.4.0, as the one number that C gets: 65536 times the major number, 256 times the minor one, and the patch number.
use Rattle.std.specs.Prelude.{ℕ, ◌+◌, ◌*◌}

abbrev as_one_number : ℕ → ℕ → ℕ → ℕ
as_one_number major minor patch = 65536 * major + 256 * minor + patch

unfoldable pub library_version : ℕ
library_version = as_one_number 1 4 0
