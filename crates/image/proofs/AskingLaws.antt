-- Asking for a block: the image's refusal, rule 30, or what is read at the block's cursor.
use Prim.Native.Nat.{ℕ, ◌+◌, ◌<◌, ◌≤◌}
use mathlib.Core.Path.{◌≡◌}
use mathlib.Core.List.{List}
use native.Mathlib.Omega.{arith}
use lib.ListN.{length}
use borrow.Author.Tests.{le-leb, lt-leb}
use Rattle.fields.specs.Rules.{Outcome, refused, done, unless, and_then}
use Rattle.fields.specs.Answer.{answer_of}
use Rattle.image.specs.Reading.{blocks_in, read_image, reading_of}
use Rattle.fields.specs.declared.Part.{Part}
use Rattle.image.specs.Asking.{Whereabouts, where_is, told_of, asking, asked_numbers, asked_of, numbers_of_asked}
use Rattle.image.specs.Walking.{block_at, place_of, Here, Tells, Accepted}
use Rattle.ranges.specs.declared.row.Cursor.{Cursor}
use Rattle.image.specs.declared.walking.BlockHeader.{BlockHeader}
use Rattle.image.proofs.ReadLaws.{reading_refused, source_blocks}

pub found_here : (s : List ℕ) (c : Cursor) (b : BlockHeader) → Here s c → Tells s c b → b.part ≡ told_of (where_is (blocks_in s) c.number)
unfolding told_of where_is block_at place_of
found_here s c b h t =
    let raw : b.part.raw.0 ≡ place_of s c.number + 12 = rw (← h.place) t.raw in
    λ i. record { size = t.size i; load = record { 0 = t.load i }; run = record { 0 = t.run i }; raw = record { 0 = raw i } }

module _ (s : List ℕ) (k : ℕ) where
  pub not_read : {code index : ℕ} → reading_of (read_image s) ≡ refused code index → refused code index ≡ asked_of (asking s k)
  unfolding asked_of asking and_then
  not_read e = rw (reading_refused (read_image s) e)

  module _ (entry count : ℕ) (a : Accepted s entry count) where
    pub no_block : count ≤ k → refused 30 0 ≡ asked_of (asking s k)
    unfolding asked_of asking and_then unless
    no_block h =
        let n : length (blocks_in s) ≤ k = omega arith in
        rw (a.read, source_blocks s, le-leb _ _ n)

    pub asked : k < count → done (told_of (where_is (blocks_in s) k)) ≡ asked_of (asking s k)
    unfolding asked_of asking and_then unless
    asked h =
        let n : k < length (blocks_in s) = omega arith in
        rw (a.read, source_blocks s, lt-leb _ _ n)

-- the numbers of an answer are those of the outcome
pub asked_numbers_lem : (o : Outcome Whereabouts) {r : Outcome Part} → r ≡ asked_of o → (r ≡ asked_of o) × (numbers_of_asked r ≡ asked_numbers o)
unfolding asked_of told_of numbers_of_asked answer_of
asked_numbers_lem (refused code index) e = (e, rw e)
asked_numbers_lem (done w) e = (e, rw e)
