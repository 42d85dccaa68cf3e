-- One section more: what it adds to the lines of a listing, and how much that may be.
use Prim.Native.Nat.{ℕ, zero, suc, ◌+◌, ◌*◌, ◌<◌, ◌≤◌}
use mathlib.Core.Path.{◌≡◌, refl, ap, sym}
use mathlib.Core.List.{List, [], ◌∷◌, ◌++◌, append_assoc, append-nil}
use mathlib.Core.Logic.{⊎_elim}
use native.Mathlib.Nat.{eq-or-lt_of_le, le_of_suc-le-suc}
use native.Mathlib.Numerals.{add-one}
use native.Mathlib.Omega.{arith}
use lib.ListN.{length, length-append}
use Rattle.fields.specs.Counting.{joined}
use Rattle.fields.specs.Program.{Numbered, blocks_of_parts}
use Rattle.fields.proofs.CountingLaws.{joined_none, joined_more}
use Rattle.coff.specs.declared.Sections.{Sections}
use Rattle.coff.specs.Parts.{part_at, parts_of, ReadOf, TellsKept}
use Rattle.coff.proofs.PartLaws.{count_few, length_piece, part_cases}
use Rattle.image.specs.Layout.{spans_of}
use Rattle.image.proofs.ConvertLaws.{spans_none, spans_more, count_more, part_small}
use Rattle.lines.specs.Text.{decimal, section_line, line_of, lines_of}
use Rattle.lines.proofs.LineLaws.{length_section, section_short}

lines_one : (p : Numbered) → lines_of (p ∷ []) ≡ line_of p
unfolding lines_of
lines_one p = append-nil (line_of p)

lines_append : (ps qs : List Numbered) → lines_of (ps ++ qs) ≡ lines_of ps ++ lines_of qs
unfolding lines_of
lines_append [] qs = refl
lines_append (p ∷ ps) qs = rw (lines_append ps qs) (sym (append_assoc (line_of p) (lines_of ps) (lines_of qs)))

module _ (f : List ℕ) (s : Sections) where
  -- One section.

  pub no_line : (i : ℕ) → part_at f s i ≡ [] → lines_of (part_at f s i) ≡ []
  unfolding lines_of
  no_line i left = rw left

  pub one_line : (i : ℕ) {size load run raw : ℕ} → TellsKept f s i size load run raw → lines_of (part_at f s i) ≡ section_line i load run size
  unfolding line_of
  one_line i {size} {load} {run} {raw} t =
      rw (t.part, lines_one) (ap (section_line i load run) (length_piece f raw size t.within))

  pub length_one : (i : ℕ) {size load run raw : ℕ} → TellsKept f s i size load run raw → length (lines_of (part_at f s i)) ≡ length (decimal i) + length (decimal size) + 34
  length_one i {size} {load} {run} t = rw (one_line i t) (length_section i load run size)

  -- The sections below i, and one more.

  pub lines_none : lines_of (joined (part_at f s) 0) ≡ []
  unfolding lines_of
  lines_none = rw joined_none

  pub lines_more : (i : ℕ) → lines_of (joined (part_at f s) (i + 1)) ≡ lines_of (joined (part_at f s) i) ++ lines_of (part_at f s i)
  lines_more i = rw (joined_more, lines_append)

  -- in bytes, of which the first lines have no more than all
  pub length_more : (i : ℕ) → length (lines_of (joined (part_at f s) (i + 1))) ≡ length (lines_of (joined (part_at f s) i)) + length (lines_of (part_at f s i))
  length_more i = rw (lines_more, length-append)

  lines_le : (i n : ℕ) → i ≤ n → length (lines_of (joined (part_at f s) i)) ≤ length (lines_of (joined (part_at f s) n))
  lines_le i zero h = let e : i ≡ 0 = omega arith in rw e (omega arith)
  lines_le i (suc n) h =
      let more = rw (add-one n) at (length_more n) in
      ⊎_elim (λ e. rw e (omega arith)) (λ l. omega (arith, lines_le i n (le_of_suc-le-suc l))) (eq-or-lt_of_le h)

  -- there is room for one more where there is room for all
  pub room_left : (i : ℕ) → i < s.count → length (lines_of (joined (part_at f s) i)) + length (lines_of (part_at f s i)) ≤ length (lines_of (parts_of f s))
  room_left i h = omega (arith, length_more i, lines_le (i + 1) s.count (omega arith))

  -- How much they may be.

  module _ (ok : ReadOf f s) where
    part_short : (i : ℕ) → i < s.count → length (lines_of (part_at f s i)) ≤ 47
    unfolding line_of
    part_short i h =
        ⊎_elim
        (λ left. rw (no_line i left) (omega arith))
        (λ p. rw (p.is, lines_one) (section_short i _ _ _ (omega (arith, count_few ok)) (omega (arith, p.long, p.short, ok.short))))
        (part_cases f s i ok h)

    pub lines_short : (n : ℕ) → n ≤ s.count → length (lines_of (joined (part_at f s) n)) ≤ 47 * n
    lines_short zero h = rw lines_none (omega arith)
    lines_short (suc n) h =
        rw (← (add-one n), lines_more, length-append) (omega (arith, part_short n (omega arith), lines_short n (omega arith)))

    -- of n sections at most n are kept, and each adds its fields and at most the bytes of the file
    pub blocks_short : (n : ℕ) → n ≤ s.count → (length (joined (part_at f s) n) ≤ n) × (spans_of (blocks_of_parts (joined (part_at f s) n)) ≤ 16777231 * n)
    blocks_short zero h = rw (spans_none f s, joined_none) (omega arith)
    blocks_short (suc n) h =
        rw (← (add-one n))
        (omega (arith, spans_more f s n, count_more f s n, part_small f s ok n (omega arith), blocks_short n (omega arith)))
