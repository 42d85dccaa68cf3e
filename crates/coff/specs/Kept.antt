-- Which sections are kept.
use Rattle.std.specs.Prelude.{ℕ, ◌/◌, ◌%◌, Bool, not, ◌&&◌, ◌||◌, List, eqb}
use Rattle.fields.specs.Options.{Options}
use Rattle.patterns.specs.Taking.{takes_any}
use Rattle.coff.specs.File.{Section, section_of}
use Rattle.coff.specs.Names.{name_of}

-- a flag, a power of two, is set
abbrev pub has_flag : ℕ → ℕ → Bool
has_flag flags flag = eqb (flags / flag % 2) 1

-- DSECT, NOLOAD or COPY
abbrev pub is_shut_out : ℕ → Bool
is_shut_out flags = has_flag flags 0x1 || has_flag flags 0x2 || has_flag flags 0x10

-- TEXT, DATA or VECTOR
abbrev pub is_code_or_data : ℕ → Bool
is_code_or_data flags = has_flag flags 0x20 || has_flag flags 0x40 || has_flag flags 0x8000

-- DSECT, NOLOAD, GROUP, PAD, COPY, TEXT, DATA, BSS or VECTOR
abbrev pub has_type : ℕ → Bool
has_type flags =
    has_flag flags 0x1
    || has_flag flags 0x2
    || has_flag flags 0x4
    || has_flag flags 0x8
    || has_flag flags 0x10
    || has_flag flags 0x20
    || has_flag flags 0x40
    || has_flag flags 0x80
    || has_flag flags 0x8000

-- paper 01's sentence: it has a size, is not shut out, and is code or data
abbrev pub is_kept_typed : Section → Bool
is_kept_typed s = not (eqb s.size 0) && not (is_shut_out s.flags) && is_code_or_data s.flags

-- paper 02's, request Two: it is plain, that is, without a type, and neither its size nor its raw offset is 0
abbrev pub is_kept_plain : Section → Bool
is_kept_plain s = not (has_type s.flags) && not (eqb s.size 0) && not (eqb s.raw 0)

-- by its size, its raw offset and its flags
unfoldable pub is_kept : Section → Bool
is_kept s = is_kept_typed s || is_kept_plain s

-- the test that rules and parts are asked with: whether section i of a file is kept by its header, and no pattern takes its name
unfoldable pub keeps : Options → List ℕ → ℕ → Bool
keeps o f i = is_kept (section_of f i) && not (takes_any o.patterns (name_of f i))
