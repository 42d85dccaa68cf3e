-- Which of up to 256 sections are kept, as four numbers of 64 bits: a bit for each section, the first section's the lowest.
use Rattle.std.specs.Prelude.{ℕ, zero, suc, ◌+◌, ◌/◌, ◌%◌, ◌^◌, Bool, cond, [], ◌∷◌, eqb, get_or, set}
use Rattle.coff.specs.declared.Marks.{Marks}

unfoldable pub word_of : Marks → ℕ → ℕ
word_of m w = get_or m.words w 0

-- section i has its mark
unfoldable pub is_marked : Marks → ℕ → Bool
is_marked m i = eqb (word_of m (i / 64) / 2 ^ (i % 64) % 2) 1

-- a bit set in one of the numbers, where it was not set before
unfoldable pub with_bit : Marks → ℕ → ℕ → Marks
with_bit m w bit = record { words = set m.words w (word_of m w + bit) }

unfoldable pub with_mark : Marks → ℕ → Marks
with_mark m i = with_bit m (i / 64) (2 ^ (i % 64))

abbrev pub no_marks : Marks
no_marks = record { words = 0 ∷ 0 ∷ 0 ∷ 0 ∷ [] }

-- the marks of those of the first n sections that are kept
unfoldable pub marks_below : (ℕ → Bool) → ℕ → Marks
marks_below keep zero = no_marks
marks_below keep (suc n) = cond (keep n) (with_mark (marks_below keep n) n) (marks_below keep n)
