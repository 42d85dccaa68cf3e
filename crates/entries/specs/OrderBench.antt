-- A table of images in the four byte orders, with one claim: A's image byte for byte, loaded, read, asked and checked, its padding, entry points, patterns, and rule 33.
use Rattle.std.specs.Prelude.{ℕ, ◌≡◌, refl, List, [], ◌∷◌, ◌++◌, map, take, drop}
use Rattle.entries.specs.Bench.{Entry, entry, result_of, convert_in, read_in, ask_in, stand_in, load_in, check_in, none, file_a, image_a, image_with, block_with, AA}
use Rattle.entries.specs.BenchFiles.{raw_a, file_entered}

-- A's image in each order, with the byte that follows the fifth of its block left open: it is padding, and stands before that one where fours are reversed
abbrev pub image_in1 : ℕ → List ℕ
image_in1 sixth =
    0 ∷ 0 ∷ 0 ∷ 0 ∷ 0 ∷ 0 ∷ 0 ∷ 5 ∷ 0 ∷ 0 ∷ 4 ∷ 0 ∷ 0x80 ∷ 0 ∷ 0 ∷ 0 ∷
    0x11 ∷ 0x22 ∷ 0x33 ∷ 0x44 ∷ 0x55 ∷ sixth ∷ 0 ∷ 0 ∷ none 4

abbrev pub image_in2 : ℕ → List ℕ
image_in2 sixth =
    0 ∷ 0 ∷ 0 ∷ 0 ∷ 5 ∷ 0 ∷ 0 ∷ 0 ∷ 0 ∷ 4 ∷ 0 ∷ 0 ∷ 0 ∷ 0 ∷ 0 ∷ 0x80 ∷
    0x44 ∷ 0x33 ∷ 0x22 ∷ 0x11 ∷ 0 ∷ 0 ∷ sixth ∷ 0x55 ∷ none 4

abbrev pub image_in3 : ℕ → List ℕ
image_in3 sixth =
    0 ∷ 0 ∷ 0 ∷ 0 ∷ 0 ∷ 0 ∷ 0 ∷ 5 ∷ 0 ∷ 0 ∷ 4 ∷ 0 ∷ 0x80 ∷ 0 ∷ 0 ∷ 0 ∷
    0x44 ∷ 0x33 ∷ 0x22 ∷ 0x11 ∷ 0 ∷ 0 ∷ sixth ∷ 0x55 ∷ none 4

-- an image of no block, with an entry point
abbrev entered : List ℕ
entered = 0x12 ∷ 0x34 ∷ 0x56 ∷ 0x78 ∷ none 4

-- A's block cut in two
abbrev cut_in3 : List ℕ
cut_in3 =
    image_with
    (0 ∷ 0 ∷ 0 ∷ 1 ∷ 0 ∷ 0 ∷ 4 ∷ 4 ∷ 0x80 ∷ 0 ∷ 0 ∷ 4 ∷ 0 ∷ 0 ∷ 0 ∷ 0x55 ∷
    0 ∷ 0 ∷ 0 ∷ 4 ∷ 0 ∷ 0 ∷ 4 ∷ 0 ∷ 0x80 ∷ 0 ∷ 0 ∷ 0 ∷ 0x44 ∷ 0x33 ∷ 0x22 ∷ 0x11 ∷ [])

abbrev writes : ℕ → List ℕ → Entry
writes order image = entry (convert_in order [] file_a (AA 30)) 0 0 (28 ∷ 1 ∷ []) (image ++ AA 2)

abbrev loads : ℕ → List ℕ → Entry
loads order image = entry (load_in order image 0x400 (AA 8)) 0 0 (5 ∷ []) (raw_a ++ AA 3)

abbrev reads : ℕ → List ℕ → Entry
reads order image = entry (read_in order image) 0 0 (0 ∷ 1 ∷ []) []

-- the offset is where the data area begins, in every order
abbrev asks : ℕ → List ℕ → Entry
asks order image = entry (ask_in order image 0) 0 0 (5 ∷ 0x400 ∷ 0x80000000 ∷ 16 ∷ []) []

abbrev stands : ℕ → List ℕ → Entry
stands order image = entry (stand_in order image 4) 0 0 (5 ∷ 0x400 ∷ 0x80000000 ∷ 16 ∷ []) []

abbrev same : ℕ → List ℕ → Entry
same order image = entry (check_in order [] file_a image) 0 0 [] []

abbrev refuses : ℕ → List ℕ → ℕ → ℕ → Entry
refuses order image code index = entry (read_in order image) code index (0 ∷ 0 ∷ []) []

abbrev pub order_table : List Entry
order_table =
    -- A's image in each order, and into 27 bytes
    writes 0 image_a
    ∷ writes 1 (image_in1 0)
    ∷ writes 2 (image_in2 0)
    ∷ writes 3 (image_in3 0)
    ∷ entry (convert_in 3 [] file_a (AA 27)) 15 0 (0 ∷ 0 ∷ []) (AA 27)
    -- all four into one window: exactly five bytes are placed
    ∷ loads 0 image_a
    ∷ loads 1 (image_in1 0)
    ∷ loads 2 (image_in2 0)
    ∷ loads 3 (image_in3 0)
    ∷ entry (load_in 2 (image_in2 0) 0x400 (AA 5)) 0 0 (5 ∷ []) raw_a
    ∷ entry (load_in 2 (image_in2 0) 0x400 (AA 4)) 29 0 (0 ∷ []) (AA 4)
    -- read, asked and checked in its order each is A
    ∷ reads 1 (image_in1 0)
    ∷ reads 2 (image_in2 0)
    ∷ reads 3 (image_in3 0)
    ∷ asks 1 (image_in1 0)
    ∷ asks 2 (image_in2 0)
    ∷ asks 3 (image_in3 0)
    ∷ stands 1 (image_in1 0)
    ∷ stands 2 (image_in2 0)
    ∷ stands 3 (image_in3 0)
    ∷ same 1 (image_in1 0)
    ∷ same 2 (image_in2 0)
    ∷ same 3 (image_in3 0)
    -- P10's padding byte, where each order has it
    ∷ refuses 0 (image_with (block_with 1)) 25 0
    ∷ refuses 1 (image_in1 1) 25 0
    ∷ refuses 2 (image_in2 1) 25 0
    ∷ refuses 3 (image_in3 1) 25 0
    -- told another order than it was written in: a size that is too large, or a fifth byte that stands where padding does
    ∷ refuses 0 (image_in1 0) 21 0
    ∷ refuses 1 image_a 21 0
    ∷ refuses 0 (image_in2 0) 25 0
    ∷ refuses 3 (image_in1 0) 25 0
    -- cut in its last four, and bytes behind the end flag
    ∷ refuses 3 (take 23 (image_in3 0)) 21 0
    ∷ refuses 3 (image_in3 0 ++ none 1) 26 1
    -- an entry point, which has a number's four bytes too, and the empty image: where there is no block, nothing tells the orders apart
    ∷ entry (convert_in 1 [] (file_entered 0x108 98) (AA 28)) 0 0 (28 ∷ 1 ∷ []) (0x12 ∷ 0x34 ∷ 0x56 ∷ 0x78 ∷ drop 4 (image_in1 0))
    ∷ entry (convert_in 2 [] (file_entered 0x108 98) (AA 28)) 0 0 (28 ∷ 1 ∷ []) (0x78 ∷ 0x56 ∷ 0x34 ∷ 0x12 ∷ drop 4 (image_in2 0))
    ∷ entry (convert_in 3 [] (file_entered 0x108 98) (AA 28)) 0 0 (28 ∷ 1 ∷ []) (0x12 ∷ 0x34 ∷ 0x56 ∷ 0x78 ∷ drop 4 (image_in3 0))
    ∷ entry (read_in 3 entered) 0 0 (0x12345678 ∷ 0 ∷ []) []
    ∷ entry (read_in 1 entered) 0 0 (0x12345678 ∷ 0 ∷ []) []
    ∷ entry (read_in 2 entered) 0 0 (0x78563412 ∷ 0 ∷ []) []
    -- P8's two blocks in order 3, the later part first
    ∷ entry (check_in 3 [] file_a cut_in3) 0 0 [] []
    ∷ entry (load_in 3 cut_in3 0x400 (AA 8)) 0 0 (5 ∷ []) (raw_a ++ AA 3)
    -- patterns beside an order: 17 is asked first, and what a pattern takes is left out in every order
    ∷ entry (convert_in 4 (0 ∷ []) file_a (AA 2)) 17 0 (0 ∷ 0 ∷ []) (AA 2)
    ∷ entry (check_in 4 (0 ∷ []) file_a image_a) 17 0 [] []
    ∷ entry (convert_in 4 (0x78 ∷ []) file_a (AA 2)) 33 0 (0 ∷ 0 ∷ []) (AA 2)
    ∷ entry (convert_in 3 (0x2A ∷ []) file_a (AA 8)) 0 0 (8 ∷ 0 ∷ []) (none 8)
    -- order 4, before all others of each call but 17
    ∷ entry (convert_in 4 [] (none 3) (AA 2)) 33 0 (0 ∷ 0 ∷ []) (AA 2)
    ∷ refuses 4 (none 3) 33 0
    ∷ entry (ask_in 4 image_a 7) 33 0 (0 ∷ 0 ∷ 0 ∷ 0 ∷ []) []
    ∷ entry (stand_in 4 (none 3) 9) 33 0 (0 ∷ 0 ∷ 0 ∷ 0 ∷ []) []
    ∷ entry (load_in 4 (none 3) 0xFFFFFFFD (AA 4)) 33 0 (0 ∷ []) (AA 4)
    ∷ entry (check_in 4 [] (none 3) (none 3)) 33 0 [] []
    ∷ []

pub order_bench : map (λ (e : Entry). result_of e.call) order_table ≡ map (λ (e : Entry). e.result) order_table
unfolding result_of
order_bench = refl
