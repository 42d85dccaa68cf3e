-- The listing of file A is the three lines of the bench, and without its last byte A is refused. Behind a section that is left a kept one has its own number,
-- and the optional header gives the entry point. Of two sections without a type the one with raw data is listed. Five entries, one claim.
use Rattle.std.specs.Prelude.{ℕ, ◌≡◌, refl, List, [], ◌∷◌, ◌++◌, map, length, take}
use Rattle.lines.specs.Text.{ascii, digit, last_digits, hex8, decimal_in, decimal, head_line, section_line, line_of, lines_of, image_line, refusal_line, text_of, listing_of}
use Rattle.lines.specs.Listing.{listing, listed_of, buffer_after, numbers_of_listing}
use Rattle.entries.specs.Bench.{Result, result_of, file_a, AA}
use Rattle.entries.specs.BenchFiles.{section, file_entered, file_pair}

pub listings :
    map listing_of
    (file_a
    ∷ take 74 file_a
    ∷ file_pair (section 0 0 5 118 0x80) (section 0x80000000 0x400 5 118 0x20)
    ∷ file_entered 0x108 98
    ∷ file_pair (section 0 0 5 0 0) (section 0x80000000 0x400 5 118 0)
    ∷ [])
    ≡ ascii "coff sections 1 kept 1 entry 00000000\n0 load 00000400 run 80000000 size 5\nimage 28\n"
    ∷ ascii "refused 10 0\n"
    ∷ ascii "coff sections 2 kept 1 entry 00000000\n1 load 00000400 run 80000000 size 5\nimage 28\n"
    ∷ ascii "coff sections 1 kept 1 entry 12345678\n0 load 00000400 run 80000000 size 5\nimage 28\n"
    ∷ ascii "coff sections 2 kept 1 entry 00000000\n1 load 00000400 run 80000000 size 5\nimage 28\n"
    ∷ []
unfolding result_of digit last_digits hex8 decimal_in decimal head_line section_line line_of lines_of image_line refusal_line text_of listing_of
listings = refl

-- what listing a file answers, and the lent buffer afterwards
abbrev listed : List ℕ → List ℕ → Result
listed file text =
    record {
      answer = numbers_of_listing (listed_of (listing file (length text)));
      buffer = buffer_after (listing file (length text)) text;
    }

abbrev result : ℕ → ℕ → ℕ → List ℕ → Result
result code index size text =
    record { answer = record { code = code; index = index; figures = size ∷ [] }; buffer = text }

-- the text of A has 83 bytes
abbrev text_a : List ℕ
text_a = ascii "coff sections 1 kept 1 entry 00000000\n0 load 00000400 run 80000000 size 5\nimage 28\n"

-- into a byte more than that, into just as many, into one less; and A without its last byte, which is refused before the room is asked
pub listings_in_buffers :
    listed file_a (AA 84) ∷ listed file_a (AA 83) ∷ listed file_a (AA 82) ∷ listed (take 74 file_a) (AA 20) ∷ listed (take 74 file_a) [] ∷ []
    ≡ result 0 0 83 (text_a ++ AA 1) ∷ result 0 0 83 text_a ∷ result 15 0 0 (AA 82) ∷ result 10 0 0 (AA 20) ∷ result 10 0 0 [] ∷ []
unfolding result_of digit last_digits hex8 decimal_in decimal head_line section_line line_of lines_of image_line text_of listing listed_of buffer_after numbers_of_listing
listings_in_buffers = refl

-- every digit, no zero in front, and a number over 2 ^ 32
pub spelled : map decimal (0 ∷ 9 ∷ 10 ∷ 4294967304 ∷ []) ≡ map ascii ("0" ∷ "9" ∷ "10" ∷ "4294967304" ∷ [])
unfolding digit decimal_in decimal
spelled = refl

pub spelled_hex : map hex8 (0 ∷ 0x12345678 ∷ 0x9ABCDEF0 ∷ 0xFFFFFFFF ∷ []) ≡ map ascii ("00000000" ∷ "12345678" ∷ "9ABCDEF0" ∷ "FFFFFFFF" ∷ [])
unfolding digit last_digits hex8
spelled_hex = refl
