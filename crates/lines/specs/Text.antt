-- The listing of a COFF file, byte for byte.
use Rattle.std.specs.Prelude.{ℕ, zero, suc, ◌+◌, ◌-◌, ◌/◌, ◌%◌, true, false, cond, List, [], ◌∷◌, ◌++◌, length, ltb}
use Prim.Native.Char.{code}
use Prim.Native.String.{String, [] as []ᵗ, ◌∷◌ as ◌∷ᵗ◌}
use Rattle.fields.specs.Rules.{refused, done}
use Rattle.fields.specs.Options.{plain}
use Rattle.fields.specs.Program.{Numbered, Source, program_of}
use Rattle.coff.specs.File.{section_count}
use Rattle.coff.specs.Reading.{read_coff}
use Rattle.image.specs.Layout.{image_length}

-- words as bytes
abbrev pub ascii : String → List ℕ
ascii []ᵗ = []
ascii (c ∷ᵗ s) = code c ∷ ascii s

-- the byte of a digit below 16, in upper case
unfoldable pub digit : ℕ → ℕ
digit d = cond (ltb d 10) (code "0" + d) (code "A" + (d - 10))

-- the last digits of a number in base 16, as many as are asked for
unfoldable pub last_digits : ℕ → ℕ → List ℕ
last_digits zero n = []
last_digits (suc more) n = last_digits more (n / 16) ++ (digit (n % 16) ∷ [])

unfoldable pub hex8 : ℕ → List ℕ
hex8 n = last_digits 8 n

-- a number in decimal, with no zero in front; `turns` only bounds the recursion, and n + 1 of them are more than it has digits
unfoldable pub decimal_in : ℕ → ℕ → List ℕ
decimal_in zero n = []
decimal_in (suc turns) n =
    elim (ltb n 10) [ true ↦ digit n ∷ [] | false ↦ decimal_in turns (n / 10) ++ (digit (n % 10) ∷ []) ]

unfoldable pub decimal : ℕ → List ℕ
decimal n = decimal_in (suc n) n

-- the section count, the kept count and the entry point
unfoldable pub head_line : ℕ → ℕ → ℕ → List ℕ
head_line sections kept entry =
    ascii "coff sections " ++ (decimal sections
    ++ (ascii " kept " ++ (decimal kept
    ++ (ascii " entry " ++ (hex8 entry ++ ascii "\n")))))

-- one kept section: its index, its addresses and its size
unfoldable pub section_line : ℕ → ℕ → ℕ → ℕ → List ℕ
section_line index load run size =
    decimal index
    ++ (ascii " load " ++ (hex8 load
    ++ (ascii " run " ++ (hex8 run
    ++ (ascii " size " ++ (decimal size ++ ascii "\n"))))))

unfoldable pub line_of : Numbered → List ℕ
line_of p = section_line p.number p.block.load p.block.run (length p.block.bytes)

unfoldable pub lines_of : List Numbered → List ℕ
lines_of [] = []
lines_of (p ∷ ps) = line_of p ++ lines_of ps

unfoldable pub image_line : ℕ → List ℕ
image_line n = ascii "image " ++ (decimal n ++ ascii "\n")

unfoldable pub refusal_line : ℕ → ℕ → List ℕ
refusal_line code index = ascii "refused " ++ (decimal code ++ (ascii " " ++ (decimal index ++ ascii "\n")))

-- a file with so many sections that means a source
unfoldable pub text_of : ℕ → Source → List ℕ
text_of sections s =
    head_line sections (length s.parts) s.entry ++ (lines_of s.parts ++ image_line (image_length (program_of s)))

-- what the listing program prints of a file: the line of its refusal, or its text
unfoldable pub listing_of : List ℕ → List ℕ
listing_of f =
    elim (read_coff plain f) [
      | refused code index ↦ refusal_line code index
      | done s ↦ text_of (section_count f) s
    ]
