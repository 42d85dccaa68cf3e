-- A window of memory, and blocks placed in it.
use Rattle.std.specs.Prelude.{ℕ, ◌+◌, ◌-◌, ◌^◌, Bool, ◌||◌, List, [], ◌∷◌, length, ltb}
use Rattle.fields.specs.Patch.{patch}
use Rattle.fields.specs.Program.{Block}

-- the window of `room` bytes whose first address is `base` is too long, or reaches past the last address
abbrev pub is_no_window : ℕ → ℕ → Bool
is_no_window base room = ltb 16777216 room || ltb (2 ^ 32) (base + room)

-- `size` bytes from `load` on are not wholly inside that window
abbrev pub is_range_outside : ℕ → ℕ → ℕ → ℕ → Bool
is_range_outside base room load size = ltb load base || ltb (base + room) (load + size)

-- a block is not
unfoldable pub is_outside : ℕ → ℕ → Block → Bool
is_outside base room b = is_range_outside base room b.load (length b.bytes)

-- each block's bytes, written from its load address minus the base on
unfoldable pub placed : ℕ → List ℕ → List Block → List ℕ
placed base window [] = window
placed base window (b ∷ bs) = placed base (patch window (b.load - base) b.bytes) bs

-- how many bytes that is
unfoldable pub sizes_of : List Block → ℕ
sizes_of [] = 0
sizes_of (b ∷ bs) = length b.bytes + sizes_of bs
