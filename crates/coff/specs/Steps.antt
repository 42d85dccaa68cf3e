-- What the reader's own functions promise one another.
use Rattle.std.specs.Prelude.{ℕ, ◌+◌, ◌*◌, ◌<◌, ◌≤◌, ◌≡◌, Bool, true, false, List, length, Option, None, Some, Result, Ok, Err}
use Rattle.std.specs.Borrow.{Bor}
use Rattle.fields.specs.Counting.{joined}
use Rattle.fields.specs.Rules.{Silent}
use Rattle.fields.specs.Options.{Options}
use Rattle.fields.specs.declared.refusal.Reason.{Reason}
use Rattle.fields.specs.declared.refusal.Reason.TheVariants.{SectionName}
use Rattle.coff.specs.declared.ranges.Noted.{Noted}
use Rattle.coff.specs.File.{section_count, headers_begin, section_of}
use Rattle.coff.specs.Names.{name_at, is_unreadable}
use Rattle.coff.specs.Kept.{keeps}
use Rattle.coff.specs.Marks.{marks_below}
use Rattle.coff.specs.Refusals.{lacks_name, overlap_rules}

-- the section headers lie inside the file
pub record Laid (f : List ℕ) (at count : ℕ) : Type 0 where
  pub begins : at ≡ headers_begin f
  pub counted : count ≡ section_count f
  pub few : count ≤ 256
  pub within : at + 48 * count ≤ length f

-- the name of the header at a place, if it can be read
abbrev pub Names : List ℕ → ℕ → Option (Bor (List ℕ)) → Type 0
Names f at None = is_unreadable f at ≡ true
Names f at (Some name) = (is_unreadable f at ≡ false) × (name.now ≡ name_at f at)

-- what is decided of section i: its name is lacking, or whether it is kept
abbrev pub Chosen : Options → List ℕ → ℕ → Result Bool Reason → Type 0
Chosen o f i (Ok kept) = (lacks_name o f i ≡ false) × (kept ≡ keeps o f i)
Chosen o f i (Err why) = (lacks_name o f i ≡ true) × (why ≡ SectionName)

-- what is noted of the sections below i, and the place behind all of them
pub record NotedTo (o : Options) (f : List ℕ) (i : ℕ) (n : Noted) (top : ℕ) : Type 0 where
  pub marks : n.kept ≡ marks_below (keeps o f) i
  pub topped : (k : ℕ) → k < i → keeps o f k ≡ true → (section_of f k).load + (section_of f k).size ≤ top
  pub risen : n.rise ≡ true → Silent (joined (overlap_rules (keeps o f) f) i)
