-- A second table beside P1 to P12, with one claim too: the numbers, flags, fields and orders of paper 01 that those leave to review, and those of request Two.
-- Entries on sizes of 16,777,216 bytes are too long to compute; they are laws in crates/demands/proofs/LongEntries.antt.
use Rattle.std.specs.Prelude.{ℕ, ◌+◌, ◌≡◌, refl, List, [], ◌∷◌, ◌++◌, map, take}
use Rattle.entries.specs.Bench.{convert, measure, read, ask, stand, load, load_coff, check, result_of, none, file_a, file_bare, block_with, image_with, image_a, AA, Entry, entry}
use Rattle.entries.specs.BenchFiles.{head, section, raw_a, file_one, flagged, file_filled, file_entered, file_two, file_pair, file_three, block, block_at, image_entered, image_two, image_turned}

-- Entries. A file converts to an image of n bytes ..
abbrev makes : List ℕ → ℕ → ℕ → List ℕ → Entry
makes file n kept image = entry (convert file (AA n)) 0 0 (n ∷ kept ∷ []) image

-- .. or is refused, and the output stays
abbrev refuses : List ℕ → ℕ → ℕ → Entry
refuses file code index = entry (convert file (AA 64)) code index (0 ∷ 0 ∷ []) (AA 64)

-- A file is measured, and its image would have n bytes; or it is not
abbrev measures : List ℕ → ℕ → ℕ → Entry
measures file n kept = entry (measure file) 0 0 (n ∷ kept ∷ []) []

abbrev unmeasured : List ℕ → ℕ → ℕ → Entry
unmeasured file code index = entry (measure file) code index (0 ∷ 0 ∷ []) []

-- At a place of an image stands a block, the end flag, or nothing whole
abbrev stands_as : List ℕ → ℕ → ℕ → ℕ → ℕ → Entry
stands_as image place size loadAddress runAddress = entry (stand image place) 0 0 (size ∷ loadAddress ∷ runAddress ∷ (place + 12) ∷ []) []

abbrev ends : List ℕ → ℕ → Entry
ends image place = entry (stand image place) 0 0 (0 ∷ 0 ∷ 0 ∷ 0 ∷ []) []

abbrev cut_at : List ℕ → ℕ → Entry
cut_at image place = entry (stand image place) 21 0 (0 ∷ 0 ∷ 0 ∷ 0 ∷ []) []

-- A's section is kept with these flags, or not
abbrev keeps : ℕ → Entry
keeps flags = makes (flagged flags) 28 1 image_a

abbrev leaves : ℕ → Entry
leaves flags = makes (flagged flags) 8 0 (none 8)

abbrev reads : List ℕ → ℕ → ℕ → Entry
reads image entry_point blocks = entry (read image) 0 0 (entry_point ∷ blocks ∷ []) []

abbrev unreadable : List ℕ → ℕ → ℕ → Entry
unreadable image code index = entry (read image) code index (0 ∷ 0 ∷ []) []

abbrev checks : List ℕ → List ℕ → ℕ → ℕ → Entry
checks file image code index = entry (check file image) code index [] []

abbrev pub more_table : List Entry
more_table =
    -- the bench's entries that have no P
    makes (file_two 0x405) 44 2 image_two
    ∷ refuses (file_two 0x404) 13 1
    ∷ refuses (file_one 0x80000000 0x400 5 69 0x20) 10 0
    -- each flag that gives a type alone; TEXT with each that shuts a section out, and with all others, which make no difference beside it; and all but TEXT,
    -- DATA, VECTOR and those that shut out
    ∷ keeps 0x20
    ∷ keeps 0x40
    ∷ keeps 0x8000
    ∷ leaves 0x1
    ∷ leaves 0x2
    ∷ leaves 0x10
    ∷ leaves 0x4
    ∷ leaves 0x8
    ∷ leaves 0x80
    ∷ leaves 0x21
    ∷ leaves 0x22
    ∷ leaves 0x30
    ∷ keeps 0xFFFFFFEC
    ∷ leaves 0xFFFF7F8C
    -- a section without a type is kept, whatever other flags it has, if neither its size nor its raw offset is 0; with TEXT the raw offset does not decide, and 0
    -- is refused
    ∷ keeps 0
    ∷ keeps 0x100
    ∷ keeps 0x4000
    ∷ keeps 0xFFFF7F00
    ∷ makes (file_one 0x80000000 0x400 5 0 0) 8 0 (none 8)
    ∷ makes (file_one 0x80000000 0x400 0 70 0) 8 0 (none 8)
    ∷ makes (file_one 0xFFFFFFFF 0xFFFFFFFF 0xFFFFFFFF 0 0) 8 0 (none 8)
    ∷ refuses (file_one 0x80000000 0x400 5 1 0) 10 0
    ∷ refuses (file_one 0x80000000 0x400 5 69 0) 10 0
    ∷ refuses (file_one 0x80000000 0x400 5 0 0x20) 10 0
    -- what is asked of it, and done with it, is what any kept section gets
    ∷ refuses (file_one 0x80000000 0xFFFFFFFC 5 70 0) 11 0
    ∷ refuses (file_one 0xFFFFFFFC 0x400 5 70 0) 12 0
    ∷ refuses (file_pair (section 0 0x400 5 118 0) (section 0 0x404 5 118 0x20)) 13 1
    ∷ refuses (file_pair (section 0 0x400 5 118 0x20) (section 0 0x404 5 118 0)) 13 1
    ∷ makes (file_pair (section 0x80000000 0x400 5 118 0x20) (section 0 0x404 5 0 0)) 28 1 image_a
    ∷ measures (flagged 0) 28 1
    ∷ entry (load_coff (flagged 0) 0x400 (AA 8)) 0 0 (5 ∷ []) (raw_a ++ AA 3)
    ∷ entry (load_coff (flagged 0) 0x400 (AA 4)) 29 0 (0 ∷ []) (AA 4)
    ∷ checks (flagged 0) image_a 0 0
    ∷ checks (flagged 0) (none 8) 41 0
    -- a section of size 0 is not kept; nothing about one that is not kept refuses the file
    ∷ makes (file_one 0xFFFFFFFF 0xFFFFFFFF 0 0xFFFFFFFF 0x20) 8 0 (none 8)
    ∷ makes (file_one 0xFFFFFFFF 0xFFFFFFFF 0xFFFFFFFF 0 0x80) 8 0 (none 8)
    -- what is not read; an optional header, its entry point and its magic, and raw data that begins inside the headers behind it
    ∷ makes file_filled 28 1 image_a
    ∷ makes (file_entered 0x108 98) 28 1 image_entered
    ∷ refuses (file_entered 0x108 97) 10 0
    -- rules 2 to 9, each in a file of which later ones hold as well
    ∷ refuses (none 21) 2 0
    ∷ refuses (head 0xC3 257 27 0xFFFD 0x98) 3 0
    ∷ refuses (head 0xC2 257 27 0xFFFD 0x98) 4 0
    ∷ refuses (head 0xC2 257 27 0xFFFD 0x99) 5 0
    ∷ refuses (head 0xC2 257 28 0xFFFD 0x99) 6 0
    ∷ refuses (head 0xC2 257 28 2 0x99) 7 0
    ∷ refuses (head 0xC2 256 28 2 0x99) 8 0
    ∷ refuses (file_entered 0x107 0) 9 0
    -- both bytes of version and target count; the file may end with its header, but not inside a section's
    ∷ refuses (head 0x1C2 0 0 2 0x99) 3 0
    ∷ refuses (head 0xC2 0 0 2 0x199) 4 0
    ∷ makes (head 0xC2 0 0 0xFFFF 0x99) 8 0 (none 8)
    ∷ refuses (take 69 file_a) 8 0
    -- rules 10 to 12, each with the later ones; section by section; and before 13
    ∷ refuses (file_one 0xFFFFFFFC 0xFFFFFFFC 5 69 0x20) 10 0
    ∷ refuses (file_one 0xFFFFFFFC 0xFFFFFFFC 5 70 0x20) 11 0
    ∷ refuses (file_one 0xFFFFFFFC 0x400 5 70 0x20) 12 0
    ∷ makes (file_one 0xFFFFFFFB 0x400 5 70 0x20) 28 1 (image_with (block_at 0x400 0xFFFFFFFB (none 3)))
    ∷ refuses (file_one 0x80000000 0x400 0xFFFFFFFF 70 0x20) 10 0
    ∷ refuses (file_pair (section 0xFFFFFFFC 0x400 5 118 0x20) (section 0 0x400 5 0 0x20)) 12 0
    ∷ refuses (file_pair (section 0 0x400 5 118 0x20) (section 0 0x400 5 0 0x20)) 10 1
    ∷ refuses (file_pair (section 0 0x400 5 118 0x20) (section 0 0xFFFFFFFC 5 118 0x20)) 11 1
    ∷ refuses (file_pair (section 0 0x400 5 118 0x20) (section 0xFFFFFFFC 0x500 5 118 0x20)) 12 1
    -- a section that is left counts for the index, of rule 10 as of 13
    ∷ refuses (file_pair (section 0 0x400 5 118 0x80) (section 0 0x400 5 117 0x20)) 10 1
    ∷ refuses (file_three (section 0 0x400 5 166 0x80) (section 0 0x400 5 166 0x20) (section 0 0x404 5 166 0x20)) 13 2
    -- rule 13: the later of the two, be it no neighbour; not for one that is not kept, nor for run ranges or raw data that are shared
    ∷ refuses (file_three (section 0 0x400 5 166 0x20) (section 0 0x500 5 166 0x20) (section 0 0x404 5 166 0x20)) 13 2
    ∷ refuses (file_two 0x400) 13 1
    ∷ makes (file_two 0x3FF) 44 2 (image_with (block_with 0 ++ block 1 0x3FF 0 (0x66 ∷ none 3)))
    ∷ makes (file_pair (section 0x80000000 0x400 5 118 0x20) (section 0x80000000 0x400 5 118 0x80)) 28 1 image_a
    ∷ makes (file_pair (section 0x80000000 0x400 5 118 0x20) (section 0x80000000 0x405 5 118 0x40)) 48 2 (image_with (block_with 0 ++ block_at 0x405 0x80000000 (none 3)))
    -- an image's entry point and block count; rule 21 wherever it ends
    ∷ reads image_entered 0x12345678 1
    ∷ reads image_two 0 2
    ∷ reads (none 8) 0 0
    ∷ unreadable (none 3) 21 0
    ∷ unreadable (none 7) 21 0
    ∷ unreadable (take 15 image_a) 21 0
    ∷ unreadable (take 23 image_a) 21 0
    ∷ unreadable (take 24 image_a) 21 1
    -- rules 23 to 27, in their order
    ∷ unreadable (image_with (block_at 0xFFFFFFFC 0xFFFFFFFC (1 ∷ none 2))) 23 0
    ∷ unreadable (image_with (block_at 0xFFFFFFFB 0xFFFFFFFC (1 ∷ none 2))) 24 0
    ∷ unreadable (image_with (block_at 0xFFFFFFFB 0xFFFFFFFB (0 ∷ 0 ∷ 1 ∷ []))) 25 0
    ∷ reads (image_with (block_at 0xFFFFFFFB 0xFFFFFFFB (none 3))) 0 1
    -- each of the first three behind a block that is whole
    ∷ unreadable (image_with (block_with 0 ++ block_at 0xFFFFFFFC 0 (none 3))) 23 1
    ∷ unreadable (image_with (block_with 0 ++ block_at 0x500 0xFFFFFFFC (none 3))) 24 1
    ∷ unreadable (image_with (block_with 0 ++ block_at 0x500 0 (1 ∷ none 2))) 25 1
    ∷ unreadable (image_with (block_with 0 ++ block_with 0) ++ none 1) 26 2
    ∷ unreadable (image_with (block_with 0 ++ (block_at 0x500 0 (none 3) ++ block_at 0x404 0 (none 3)))) 27 2
    -- a block by its number: size, load, run, offset; rule 30, after the image's own
    ∷ entry (ask image_a 0) 0 0 (5 ∷ 0x400 ∷ 0x80000000 ∷ 16 ∷ []) []
    ∷ entry (ask image_two 1) 0 0 (1 ∷ 0x405 ∷ 0 ∷ 36 ∷ []) []
    ∷ entry (ask image_two 2) 30 0 (0 ∷ 0 ∷ 0 ∷ 0 ∷ []) []
    ∷ entry (ask (image_with (block_with 1)) 1) 25 0 (0 ∷ 0 ∷ 0 ∷ 0 ∷ []) []
    -- a block by its place: the first, the next, the end flag; at any other place the number that stands there is taken for a size
    ∷ stands_as image_a 4 5 0x400 0x80000000
    ∷ stands_as image_two 24 1 0x405 0
    ∷ ends image_two 40
    ∷ ends image_a 0
    ∷ cut_at image_a 3
    ∷ cut_at image_a 16
    -- rule 21 wherever the image ends: before the size field, inside it, inside the block, in its padding; and past the image
    ∷ cut_at image_two 44
    ∷ cut_at image_two 41
    ∷ cut_at image_two 0xFFFFFFFFFFFFFFFF
    ∷ cut_at (take 7 image_a) 4
    ∷ cut_at (take 15 image_a) 4
    ∷ cut_at (take 23 image_a) 4
    ∷ stands_as (take 24 image_a) 4 5 0x400 0x80000000
    ∷ cut_at (none 3) 0
    ∷ cut_at (image_with (0xFF ∷ 0xFF ∷ 0xFF ∷ 0xFF ∷ none 12)) 4
    -- what would make the image one that cannot be read is not looked at
    ∷ stands_as (image_with (block_with 1)) 4 5 0x400 0x80000000
    ∷ stands_as (image_with (block_at 0xFFFFFFFC 0xFFFFFFFC (none 3))) 4 5 0xFFFFFFFC 0xFFFFFFFC
    -- measuring: as converting answers where there is room
    ∷ measures file_a 28 1
    ∷ measures (file_two 0x405) 44 2
    ∷ measures (flagged 0x80) 8 0
    ∷ unmeasured (take 74 file_a) 10 0
    ∷ unmeasured (file_two 0x404) 13 1
    ∷ unmeasured (none 21) 2 0
    -- a load of an image: where its bytes go; rule 28 before the image's, 29 behind them, and nothing is written before it
    ∷ entry (load image_a 0x3FE (AA 8)) 0 0 (5 ∷ []) (AA 2 ++ (raw_a ++ AA 1))
    ∷ entry (load image_turned 0x400 (AA 8)) 0 0 (6 ∷ []) (raw_a ++ 0x66 ∷ AA 2)
    ∷ entry (load (none 3) 0xFFFFFFFD (AA 4)) 28 0 (0 ∷ []) (AA 4)
    ∷ entry (load image_a 0xFFFFFFFC (AA 4)) 29 0 (0 ∷ []) (AA 4)
    ∷ entry (load (none 3) 0 (AA 4)) 21 0 (0 ∷ []) (AA 4)
    ∷ entry (load image_a 0x401 (AA 8)) 29 0 (0 ∷ []) (AA 8)
    ∷ entry (load image_two 0x400 (AA 5)) 29 1 (0 ∷ []) (AA 5)
    -- a load of a COFF file: the same; sections that are not kept count for the index
    ∷ entry (load_coff file_a 0x400 (AA 8)) 0 0 (5 ∷ []) (raw_a ++ AA 3)
    ∷ entry (load_coff (file_two 0x405) 0x400 (AA 8)) 0 0 (6 ∷ []) (raw_a ++ 0x66 ∷ AA 2)
    ∷ entry (load_coff (take 74 file_a) 0xFFFFFFFD (AA 4)) 28 0 (0 ∷ []) (AA 4)
    ∷ entry (load_coff (take 74 file_a) 0x400 (AA 8)) 10 0 (0 ∷ []) (AA 8)
    ∷ entry (load_coff file_a 0x400 (AA 4)) 29 0 (0 ∷ []) (AA 4)
    ∷ entry (load_coff (file_two 0x405) 0x400 (AA 5)) 29 1 (0 ∷ []) (AA 5)
    ∷ entry (load_coff (file_pair (section 0 0 5 118 0x80) (section 0 0x500 5 118 0x20)) 0x400 (AA 8)) 29 1 (0 ∷ []) (AA 8)
    -- the check: the file's rules, the image's, then 40, then 41; and "same"
    ∷ checks (take 74 file_a) (none 3) 10 0
    ∷ checks file_a (none 3) 21 0
    ∷ checks (file_entered 0x108 98) (none 8) 40 0
    ∷ checks file_a image_entered 40 0
    ∷ checks file_a (none 8) 41 0
    ∷ checks file_bare image_a 41 0
    ∷ checks (file_entered 0x108 98) image_entered 0 0
    ∷ checks (file_two 0x405) image_turned 0 0
    ∷ checks file_bare (none 8) 0 0
    ∷ []

pub more_bench : map (λ (e : Entry). result_of e.call) more_table ≡ map (λ (e : Entry). e.result) more_table
unfolding result_of
more_bench = refl
