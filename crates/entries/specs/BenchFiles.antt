-- The files and images of the second table, field by field as paper 01 lays them out.
use Rattle.std.specs.Prelude.{ℕ, ◌/◌, ◌%◌, ◌≡◌, refl, List, [], ◌∷◌, ◌++◌}
use Rattle.entries.specs.Bench.{none, file_a, block_with, image_with, AA}

-- Numbers as they stand in a file or an image, spelt here and not by the definitions that are tried.
abbrev pub two : ℕ → List ℕ
two n = n % 256 ∷ n / 256 ∷ []

abbrev pub four : ℕ → List ℕ
four n = n % 256 ∷ n / 256 % 256 ∷ n / 65536 % 256 ∷ n / 16777216 ∷ []

-- Files. The file header: version, number of sections; time, symbols; optional size, flags, target.
abbrev pub head : ℕ → ℕ → ℕ → ℕ → ℕ → List ℕ
head version sections optional flags target =
    two version ++ (two sections ++ (none 12 ++ (two optional ++ (two flags ++ two target))))

-- the optional header: magic and entry point, and AA in what is ignored
abbrev pub optional : ℕ → ℕ → List ℕ
optional magic entry_point = two magic ++ (AA 14 ++ (four entry_point ++ AA 8))

-- a section header: name; run, load, size, raw offset; relocation; flags; page
abbrev pub section : ℕ → ℕ → ℕ → ℕ → ℕ → List ℕ
section run load size raw flags =
    none 8 ++ (four run ++ (four load ++ (four size ++ (four raw ++ (none 16 ++ (four flags ++ none 4))))))

abbrev pub raw_a : List ℕ
raw_a = 0x11 ∷ 0x22 ∷ 0x33 ∷ 0x44 ∷ 0x55 ∷ []

-- A with its section's fields left open
abbrev pub file_one : ℕ → ℕ → ℕ → ℕ → ℕ → List ℕ
file_one run load size raw flags = head 0xC2 1 0 2 0x99 ++ (section run load size raw flags ++ raw_a)

abbrev pub flagged : ℕ → List ℕ
flagged flags = file_one 0x80000000 0x400 5 70 flags

-- A with AA in every field that is not read
abbrev pub file_filled : List ℕ
file_filled =
    two 0xC2 ++ (two 1 ++ (AA 12 ++ (two 0 ++ (two 2 ++ (two 0x99
    ++ (AA 8 ++ (four 0x80000000 ++ (four 0x400 ++ (four 5 ++ (four 70 ++ (AA 16 ++ (four 0x20 ++ (AA 4
    ++ raw_a)))))))))))))

-- A with an optional header of entry point 12345678h, its magic and the section's raw offset left open
abbrev pub file_entered : ℕ → ℕ → List ℕ
file_entered magic raw =
    head 0xC2 1 28 2 0x99 ++ (optional magic 0x12345678 ++ (section 0x80000000 0x400 5 raw 0x20 ++ raw_a))

-- A with a second section, TEXT, of one byte, with its load address left open
abbrev pub file_two : ℕ → List ℕ
file_two load =
    head 0xC2 2 0 2 0x99 ++ (section 0x80000000 0x400 5 118 0x20 ++ (section 0 load 1 123 0x20 ++ (raw_a ++ 0x66 ∷ [])))

-- two sections, and three, with A's raw bytes behind them
abbrev pub file_pair : List ℕ → List ℕ → List ℕ
file_pair first second = head 0xC2 2 0 2 0x99 ++ (first ++ (second ++ raw_a))

abbrev pub file_three : List ℕ → List ℕ → List ℕ → List ℕ
file_three first second third = head 0xC2 3 0 2 0x99 ++ (first ++ (second ++ (third ++ raw_a)))

-- Images. A block: size, load address, run address, and its data area with the padding.
abbrev pub block : ℕ → ℕ → ℕ → List ℕ → List ℕ
block size load run area = four size ++ (four load ++ (four run ++ area))

-- A's bytes and three behind them, at any addresses
abbrev pub block_at : ℕ → ℕ → List ℕ → List ℕ
block_at load run padding = block 5 load run (raw_a ++ padding)

abbrev pub image_entered : List ℕ
image_entered = 0x78 ∷ 0x56 ∷ 0x34 ∷ 0x12 ∷ (block_with 0 ++ none 4)

-- the image of file_two at 405h, and with its blocks changed over
abbrev last : List ℕ
last = block 1 0x405 0 (0x66 ∷ none 3)

abbrev pub image_two : List ℕ
image_two = image_with (block_with 0 ++ last)

abbrev pub image_turned : List ℕ
image_turned = image_with (last ++ block_with 0)

-- A spelt in this way is A as the first table has it, byte for byte
pub file_a_again : file_one 0x80000000 0x400 5 70 0x20 ≡ file_a
file_a_again = refl
