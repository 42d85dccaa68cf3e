-- What is handed on of a file that is not refused: its parts by their numbers, and what may be relied on of them.
use Rattle.std.specs.Prelude.{ℕ, ◌+◌, ◌^◌, ◌<◌, ◌≤◌, ◌≡◌, true, false, List, [], ◌∷◌, length, take, drop, Option, None, Some}
use Rattle.fields.specs.Counting.{joined}
use Rattle.fields.specs.Rules.{done}
use Rattle.fields.specs.Options.{Options}
use Rattle.fields.specs.Program.{Numbered, Source}
use Rattle.fields.specs.declared.Part.{Part}
use Rattle.coff.specs.declared.Sections.{Sections}
use Rattle.coff.specs.File.{headers_end, Section, section_of}
use Rattle.coff.specs.Marks.{is_marked}
use Rattle.coff.specs.Refusals.{do_meet}
use Rattle.coff.specs.Reading.{part_of, read_coff}
use Rattle.coff.specs.Steps.{Laid}

-- the part of section i, or none where it is left: which are kept is what the reader marked
unfoldable pub part_at : List ℕ → Sections → ℕ → List Numbered
part_at f s i = part_of (is_marked s.kept) f i

-- all parts, in the order of the headers
abbrev pub parts_of : List ℕ → Sections → List Numbered
parts_of f s = joined (part_at f s) s.count

-- with an entry point, the source that a reader hands on
abbrev pub source_of : List ℕ → Sections → ℕ → Source
source_of f s entry = record { entry = entry; parts = parts_of f s }

-- what rules 10 to 12 leave of a kept section
pub record Whole (f : List ℕ) (s : Section) : Type 0 where
  pub filled : 0 < s.size
  pub behind : headers_end f ≤ s.raw
  pub inside : s.raw + s.size ≤ length f
  pub loads : s.load + s.size ≤ 2 ^ 32
  pub runs : s.run + s.size ≤ 2 ^ 32

-- what is relied on of sections: their headers lie inside the file, each that is marked is whole, and no two of these meet.
-- That the marked ones are the kept ones is in `Accepted`: what stands above asks for parts, whatever kept them.
pub record ReadOf (f : List ℕ) (s : Sections) : Type 0 where
  pub laid : Laid f s.at s.count
  pub short : length f ≤ 16777216
  pub whole : (i : ℕ) → i < s.count → is_marked s.kept i ≡ true → Whole f (section_of f i)
  pub apart : (i j : ℕ) → i < j → j < s.count → do_meet (is_marked s.kept) f i j ≡ false

-- a file that is read: its sections and its entry point
pub record Accepted (o : Options) (f : List ℕ) (s : Sections) (entry : ℕ) : Type 0 where
  pub read_of : ReadOf f s
  pub reads : read_coff o f ≡ done (source_of f s entry)

-- what is offered of a kept section is its part
pub record TellsKept (f : List ℕ) (s : Sections) (i size load run raw : ℕ) : Type 0 where
  pub part : part_at f s i ≡ record { number = i; block = record { load = load; run = run; bytes = take size (drop raw f) } } ∷ []
  -- the offset is the header's own: without it another place with the same bytes would do
  pub place : raw ≡ (section_of f i).raw
  pub within : raw + size ≤ length f
  -- it is not empty, and both its ranges end at 2 ^ 32 or below
  pub real : 0 < size
  pub loads : load + size ≤ 2 ^ 32
  pub runs : run + size ≤ 2 ^ 32

-- what is offered of section i
abbrev pub Tells : List ℕ → Sections → ℕ → Option Part → Type 0
Tells f s i None = part_at f s i ≡ []
Tells f s i (Some p) = TellsKept f s i p.size p.load.0 p.run.0 p.raw.0
