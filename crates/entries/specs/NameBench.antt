-- Entries on sections that are left out by name, in a table of the same kind, with one claim: names in headers and in the string table, patterns, rules 16 and
-- 17 and their places among the others.
use Rattle.std.specs.Prelude.{ℕ, zero, suc, ◌≡◌, refl, Bool, true, false, List, [], ◌∷◌, ◌++◌, map, take, replicate}
use Rattle.patterns.specs.Taking.{takes_alone}
use Rattle.lines.specs.Text.{ascii}
use Rattle.entries.specs.Bench.{convert, load_coff, check, convert_with, measure_with, load_coff_with, check_with, result_of, none, image_a, AA, Entry, entry}
use Rattle.entries.specs.BenchFiles.{two, four, raw_a, file_pair}

-- A header with the place of the symbols and their number, and a section of A's with its eight bytes of name, its load address, raw offset and flags.
abbrev head : ℕ → ℕ → ℕ → List ℕ
head sections symbols count =
    two 0xC2 ++ (two sections ++ (none 4 ++ (four symbols ++ (four count ++ (two 0 ++ (two 2 ++ two 0x99))))))

abbrev section : List ℕ → ℕ → ℕ → ℕ → List ℕ
section name load raw flags =
    name ++ (four 0x80000000 ++ (four load ++ (four 5 ++ (four raw ++ (none 16 ++ (four flags ++ none 4))))))

-- A with a name in its header
abbrev named : List ℕ → List ℕ
named name = head 1 0 0 ++ (section name 0x400 70 0x20 ++ raw_a)

-- ".text" in eight bytes
abbrev text : List ℕ
text = ascii ".text" ++ none 3

-- A with an offset for a name; what follows its raw bytes, from byte 75 on, is left open, and so are the place of the symbols and their number
abbrev far : ℕ → ℕ → ℕ → List ℕ → List ℕ
far offset symbols count tail =
    head 1 symbols count ++ (section (none 4 ++ four offset) 0x400 70 0x20 ++ (raw_a ++ tail))

-- with a string table of ".text" and a zero byte there, whose size says so many bytes
abbrev tabled : ℕ → ℕ → List ℕ
tabled offset size = far offset 75 0 (four size ++ (ascii ".text" ++ none 1))

-- Entries. A's section is left out with the row of patterns, or stays, or the file is refused.
abbrev leaves : List ℕ → List ℕ → Entry
leaves row file = entry (convert_with row file (AA 8)) 0 0 (8 ∷ 0 ∷ []) (none 8)

abbrev stays : List ℕ → List ℕ → Entry
stays row file = entry (convert_with row file (AA 28)) 0 0 (28 ∷ 1 ∷ []) image_a

abbrev refuses : List ℕ → List ℕ → ℕ → ℕ → Entry
refuses row file code index = entry (convert_with row file (AA 64)) code index (0 ∷ 0 ∷ []) (AA 64)

-- so many patterns of one letter, each with its zero byte
abbrev many : ℕ → List ℕ
many zero = []
many (suc n) = 0x61 ∷ 0 ∷ many n

abbrev pub name_table : List Entry
name_table =
    -- a pattern takes all of a name; case counts
    leaves (ascii ".text") (named text)
    ∷ stays (ascii ".tex") (named text)
    ∷ stays (ascii ".text1") (named text)
    ∷ stays (ascii ".TEXT") (named text)
    ∷ leaves (ascii "?text") (named text)
    ∷ stays (ascii "?.text") (named text)
    ∷ leaves (ascii "*") (named text)
    ∷ leaves (ascii ".t*") (named text)
    ∷ leaves (ascii "*.text") (named text)
    ∷ leaves (ascii ".*x*t") (named text)
    ∷ stays (ascii "*x") (named text)
    -- one of several is enough; a zero byte at the end of the row makes no pattern, and no row none
    ∷ leaves (ascii ".bss" ++ (0 ∷ ascii ".text")) (named text)
    ∷ leaves (ascii ".text" ++ (0 ∷ [])) (named text)
    ∷ stays [] (named text)
    -- eight bytes are a name without a zero byte, which does not go on into the next field; eight zero bytes are the empty one
    ∷ leaves (ascii "abcdefgh") (named (ascii "abcdefgh"))
    ∷ stays (ascii "abcdefgh?*") (named (ascii "abcdefgh"))
    ∷ leaves (ascii "*") (named (none 8))
    ∷ stays (ascii "?") (named (none 8))
    -- so are a zero byte and others that are not the four of an offset; what follows a zero byte is no part of a name
    ∷ stays (ascii "?*") (named (0 ∷ 1 ∷ 0 ∷ 0 ∷ 4 ∷ 0 ∷ 0 ∷ 0 ∷ []))
    ∷ leaves (ascii "a") (named (ascii "a" ++ (0 ∷ ascii "bcdefg")))
    -- the string table: its size counts its own four bytes, and may be more than the file holds
    ∷ leaves (ascii ".text") (tabled 4 10)
    ∷ leaves (ascii ".text") (tabled 4 0xFFFFFFFF)
    ∷ leaves (ascii "text") (tabled 5 10)
    ∷ leaves (ascii "*") (tabled 9 10)
    ∷ stays (ascii "?") (tabled 9 10)
    ∷ leaves (ascii ".text") (far 4 75 1 (AA 18 ++ (four 10 ++ (ascii ".text" ++ none 1))))
    -- a table that begins with the file: its size is the file's first four bytes, and byte 4 is zero
    ∷ leaves (ascii "*") (far 4 0 0 [])
    ∷ stays (ascii "?*") (far 4 0 0 [])
    -- rule 16: the offset points into the size, or the name has no zero byte inside table and file, or the table is cut within its size
    ∷ refuses (ascii ".text") (tabled 3 10) 16 0
    ∷ refuses (ascii ".text") (tabled 10 10) 16 0
    ∷ refuses (ascii ".text") (tabled 4 9) 16 0
    ∷ refuses (ascii ".text") (tabled 4 4) 16 0
    ∷ refuses (ascii ".text") (tabled 4 0) 16 0
    ∷ refuses (ascii ".text") (far 4 75 0 (four 0xFFFFFFFF ++ ascii ".text")) 16 0
    ∷ refuses (ascii ".text") (far 4 75 0 (take 3 (four 10))) 16 0
    ∷ refuses (ascii ".text") (far 4 0xFFFFFFFF 0xFFFFFFFF (none 18)) 16 0
    -- .. even where a star would take any name, but not without patterns, nor of a section that is not kept
    ∷ refuses (ascii "*") (tabled 3 10) 16 0
    ∷ stays [] (tabled 3 10)
    ∷ leaves (ascii "*") (head 1 75 0 ++ (section (none 4 ++ four 3) 0x400 70 0x80 ++ raw_a))
    -- a section without a type is left out by its name as others are; its name is asked for where size and raw offset keep it
    ∷ leaves (ascii ".text") (head 1 0 0 ++ (section text 0x400 70 0 ++ raw_a))
    ∷ stays (ascii ".x") (head 1 0 0 ++ (section text 0x400 70 0 ++ raw_a))
    ∷ leaves (ascii ".text") (head 1 0 0 ++ (section text 0x400 1 0 ++ raw_a))
    ∷ refuses (ascii ".x") (head 1 0 0 ++ (section text 0x400 1 0 ++ raw_a)) 10 0
    ∷ refuses (ascii "*") (head 1 75 0 ++ (section (none 4 ++ four 3) 0x400 1 0 ++ raw_a)) 16 0
    ∷ leaves (ascii "*") (head 1 75 0 ++ (section (none 4 ++ four 3) 0x400 0 0 ++ raw_a))
    -- the index is 0 whichever section it is; section by section, 16 before 10
    ∷ refuses (ascii "x") (file_pair (section text 0x400 118 0x20) (section (none 4 ++ four 3) 0x500 118 0x20)) 16 0
    ∷ refuses (ascii "x") (file_pair (section text 0x400 117 0x20) (section (none 4 ++ four 3) 0x500 118 0x20)) 10 0
    ∷ refuses (ascii "x") (file_pair (section (none 4 ++ four 3) 0x400 117 0x20) (section text 0x500 118 0x20)) 16 0
    -- nothing else is asked of a section that is left out: neither 10, nor 13
    ∷ leaves (ascii ".text") (head 1 0 0 ++ (section text 0x400 69 0x20 ++ raw_a))
    ∷ refuses (ascii ".x") (head 1 0 0 ++ (section text 0x400 69 0x20 ++ raw_a)) 10 0
    ∷ entry (convert_with (ascii "b*") (file_pair (section (ascii "a" ++ none 7) 0x400 118 0x20) (section (ascii "b" ++ none 7) 0x404 118 0x20)) (AA 28)) 0 0 (28 ∷ 1 ∷ []) image_a
    ∷ refuses (ascii "c*") (file_pair (section (ascii "a" ++ none 7) 0x400 118 0x20) (section (ascii "b" ++ none 7) 0x404 118 0x20)) 13 1
    -- rule 17: a 17th pattern, one of no bytes, one of 65; before all others
    ∷ stays (many 16) (named text)
    ∷ refuses (many 17) (named text) 17 0
    ∷ refuses (0 ∷ []) (named text) 17 0
    ∷ refuses (ascii "a" ++ (0 ∷ 0 ∷ ascii "b")) (named text) 17 0
    ∷ stays (replicate 64 0x61) (named text)
    ∷ refuses (replicate 65 0x61) (named text) 17 0
    ∷ refuses (0 ∷ []) (none 21) 17 0
    ∷ refuses (0 ∷ []) (tabled 3 10) 17 0
    ∷ entry (measure_with (0 ∷ []) (none 21)) 17 0 (0 ∷ 0 ∷ []) []
    ∷ entry (load_coff_with (0 ∷ []) (named text) 0xFFFFFFFD (AA 4)) 17 0 (0 ∷ []) (AA 4)
    ∷ entry (check_with (0 ∷ []) (none 21) (none 3)) 17 0 [] []
    -- measuring, loading and checking leave out the same; a section that is left out may lie outside the window
    ∷ entry (measure_with (ascii ".text") (named text)) 0 0 (8 ∷ 0 ∷ []) []
    ∷ entry (measure_with (ascii ".x") (named text)) 0 0 (28 ∷ 1 ∷ []) []
    ∷ entry (load_coff_with (ascii ".text") (named text) 0x400 (AA 5)) 0 0 (0 ∷ []) (AA 5)
    ∷ entry (load_coff_with (ascii ".x") (named text) 0x400 (AA 5)) 0 0 (5 ∷ []) raw_a
    ∷ entry (load_coff_with (ascii ".x") (named text) 0x400 (AA 4)) 29 0 (0 ∷ []) (AA 4)
    ∷ entry (load_coff_with (ascii ".text") (named text) 0x400 (AA 4)) 0 0 (0 ∷ []) (AA 4)
    ∷ entry (load_coff_with (ascii "x") (tabled 3 10) 0xFFFFFFFD (AA 4)) 28 0 (0 ∷ []) (AA 4)
    ∷ entry (load_coff_with (ascii "x") (tabled 3 10) 0x400 (AA 4)) 16 0 (0 ∷ []) (AA 4)
    ∷ entry (check_with (ascii ".text") (named text) (none 8)) 0 0 [] []
    ∷ entry (check_with (ascii ".text") (named text) image_a) 41 0 [] []
    ∷ entry (check_with (ascii ".x") (named text) image_a) 0 0 [] []
    ∷ entry (check_with (ascii "x") (tabled 3 10) (none 3)) 16 0 [] []
    -- the calls without patterns look at no name
    ∷ entry (convert (tabled 3 10) (AA 28)) 0 0 (28 ∷ 1 ∷ []) image_a
    ∷ entry (load_coff (tabled 3 10) 0x400 (AA 5)) 0 0 (5 ∷ []) raw_a
    ∷ entry (check (tabled 3 10) image_a) 0 0 [] []
    ∷ []

pub name_bench : map (λ (e : Entry). result_of e.call) name_table ≡ map (λ (e : Entry). e.result) name_table
unfolding result_of
name_bench = refl

-- one pattern by itself
pub record Taking : Type 0 where
  pub pattern : List ℕ
  pub name : List ℕ
  pub taken : Bool

abbrev taking_of : List ℕ → List ℕ → Bool → Taking
taking_of pattern name taken = record { pattern = pattern; name = name; taken = taken }

abbrev pub takings : List Taking
takings =
    taking_of (ascii "*") [] true
    ∷ taking_of (ascii "?") [] false
    ∷ taking_of (ascii "a*b*c") (ascii "axxbxbxc") true
    ∷ taking_of (ascii "a*b*c") (ascii "axxbxbxcx") false
    ∷ taking_of (ascii "**") (ascii "ab") true
    ∷ taking_of (ascii "*?") (ascii "a") true
    ∷ taking_of (ascii "*??") (ascii "a") false
    ∷ taking_of (ascii "[a]") (ascii "a") false
    ∷ taking_of (ascii "\\*") (ascii "*") false
    ∷ taking_of [] [] false
    ∷ taking_of (replicate 64 0x61) (replicate 64 0x61) true
    ∷ taking_of (replicate 65 0x61) (replicate 65 0x61) false
    ∷ []

pub takes_bench : map (λ (t : Taking). takes_alone t.pattern t.name) takings ≡ map (λ (t : Taking). t.taken) takings
unfolding result_of takes_alone
takes_bench = refl
