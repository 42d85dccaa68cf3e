-- The parts of a file one by one: each adds what it matches, so a count grows from one number to a later one by what lies between.
use Prim.Native.Nat.{ℕ, zero, suc, ◌+◌, ◌<◌, ◌≤◌}
use mathlib.Core.Path.{◌≡◌, refl, sym}
use mathlib.Core.Bool.{true, false}
use mathlib.Core.List.{List, [], ◌∷◌, ◌++◌}
use mathlib.Core.Logic.{⊎_elim}
use native.Mathlib.Nat.{add-zero, eq-or-lt_of_le, le_of_suc-le-suc}
use native.Mathlib.Numerals.{add-one}
use native.Mathlib.Omega.{arith}
use lib.ListN.{length, take, drop}
use borrow.Author.Tests.{eq-eqb, ne_eqb}
use Rattle.std.specs.Prelude.{Some}
use Rattle.std.specs.ControlFlow.{break_value}
use Rattle.std.specs.declared.ops.ControlFlow.{ControlFlow}
use Rattle.std.specs.declared.ops.ControlFlow.TheVariants.{Continue, Break}
use Rattle.fields.specs.declared.Part.{Part}
use Rattle.fields.specs.Counting.{joined}
use Rattle.fields.specs.Program.{Block, blocks_of_parts}
use Rattle.fields.proofs.CountingLaws.{joined_none, blocks_joined}
use Rattle.coff.specs.declared.parts.Coff.{Coff}
use Rattle.coff.specs.Handed.{part_in, parts_in}
use Rattle.coff.specs.Parts.{TellsKept}
use Rattle.compare.specs.Matching.{block_with, matching, matching_of, is_matched}
use Rattle.compare.specs.Scanning.{matched_below, Room, Scanned, Found}
use Rattle.compare.proofs.MatchLaws.{matching_le}
use Rattle.compare.proofs.FileLaws.{file_spread}

-- Blocks in a row match what each of them matches.

matching_append : (bs cs : List Block) (c : Block) → matching_of (bs ++ cs) c ≡ matching_of bs c + matching_of cs c
unfolding matching_of
matching_append [] cs c = omega arith
matching_append (b ∷ bs) cs c = omega (arith, matching_append bs cs c)

matching_alone : (b c : Block) → matching_of (b ∷ []) c ≡ matching b c
unfolding matching_of
matching_alone b c = add-zero (matching b c)

matching_nothing : (c : Block) → matching_of [] c ≡ 0
unfolding matching_of
matching_nothing c = refl

-- One section: nothing where it is left, otherwise the part of the file that is lent.
module _ (file : Coff) (c : Block) (i : ℕ) where
  -- what section i matches
  abbrev pub own : ℕ
  own = matching_of (blocks_of_parts (part_in file i)) c

  pub left_matches : part_in file i ≡ [] → 0 ≡ own
  left_matches e = rw e (sym (matching_nothing c))

  pub kept_matches : (p : Part) → TellsKept file.bytes.now file.sections i p.size p.load.0 p.run.0 p.raw.0 → matching (block_with (take p.size (drop p.raw.0 file.bytes.now)) p.load p.run) c ≡ own
  kept_matches p t = rw t.part (sym (matching_alone _ c))

-- Sections one by one.

module _ (file : Coff) (c : Block) where
  pub matched_none : matched_below file 0 c ≡ 0
  unfolding matched_below
  matched_none = rw (joined_none (part_in file)) (matching_nothing c)

  pub matched_more : (i : ℕ) → matched_below file (i + 1) c ≡ matched_below file i c + own file c i
  unfolding matched_below
  matched_more i = rw (blocks_joined (part_in file) i) (matching_append (blocks_of_parts (joined (part_in file) i)) (blocks_of_parts (part_in file i)) c)

  pub matched_mono : (m n : ℕ) → m ≤ n → matched_below file m c ≤ matched_below file n c
  matched_mono m zero h = let e : m ≡ 0 = omega arith in rw e (omega arith)
  matched_mono m (suc n) h =
      ⊎_elim
      (λ e. rw e (omega arith))
      (λ l. let below = matched_mono m n (le_of_suc-le-suc l) in rw (← (add-one n)) (omega (arith, matched_more n)))
      (eq-or-lt_of_le h)

-- A scan from one section to another.

-- it has come to section i, and some byte is left
pub record Coming (file : Coff) (from : ℕ) (c : Block) (had matched i : ℕ) : Type 0 where
  pub left : matched < length c.bytes
  pub counts : matched + matched_below file from c ≡ had + matched_below file i c

module _ (file : Coff) (from to : ℕ) (c : Block) (had : ℕ) where
  pub scan_begins : Room file from to c had → Coming file from c had had from
  scan_begins r = record { left = r.left; counts = refl }

  pub scan_ends : {matched i : ℕ} → Coming file from c had matched i → i ≡ to → Scanned file from to c had (Continue matched)
  scan_ends came e = (rw e at came.counts, came.left)

  -- one section more, which matches n bytes
  module _ (room : Room file from to c had) {matched i : ℕ} (came : Coming file from c had matched i) (h : i < to) {n : ℕ} (e : n ≡ own file c i) where
    pub scan_fits : matched + n ≤ length c.bytes
    scan_fits = omega (arith, came.counts, room.enough, matched_more file c i, matched_mono file c (i + 1) to (omega arith))

    pub scan_goes : (matched + n ≡ length c.bytes → ⊥) → Coming file from c had (matched + n) (i + 1)
    scan_goes k =
        let fits = scan_fits in
        record { left = omega arith; counts = omega (arith, came.counts, matched_more file c i) }

    pub scan_stops : matched + n ≡ length c.bytes → Scanned file from to c had (Break i)
    scan_stops k = (
      h,
      omega (arith, came.counts, room.enough, matched_more file c i, matched_mono file c (i + 1) to (omega arith)),
    )

-- A block by all sections: those from the hint on, and then those before it.
module _ (file : Coff) {hint : ℕ} (c : Block) (h : hint ≤ file.sections.count) where
  within : matched_below file file.sections.count c ≤ length c.bytes
  unfolding matched_below
  within = matching_le (blocks_of_parts (parts_in file)) c (file_spread file).apart

  all_matched : matched_below file file.sections.count c ≡ length c.bytes → is_matched (blocks_of_parts (parts_in file)) c ≡ true
  unfolding matched_below is_matched
  all_matched e = eq-eqb _ _ e

  some_missed : matched_below file file.sections.count c < length c.bytes → is_matched (blocks_of_parts (parts_in file)) c ≡ false
  unfolding matched_below is_matched
  some_missed l = ne_eqb _ _ (λ e. omega arith)

  pub room_later : 0 < length c.bytes → Room file hint file.sections.count c 0
  room_later real = record { left = real; enough = omega (arith, within) }

  pub found_later : {section : ℕ} → Scanned file hint file.sections.count c 0 (Break section) → Found file c (Some section)
  found_later scanned = (scanned.0, all_matched (omega (arith, scanned.1, within)))

  module _ {matched : ℕ} (later : Scanned file hint file.sections.count c 0 (Continue matched)) where
    pub room_earlier : Room file 0 hint c matched
    room_earlier = record { left = later.1; enough = omega (arith, later.0, within) }

    pub found_earlier : (r : ControlFlow ℕ ℕ) → Scanned file 0 hint c matched r → Found file c (break_value r)
    found_earlier (Break section) earlier = (
      omega (arith, earlier.0),
      all_matched (omega (arith, later.0, earlier.1, matched_none file c, within)),
    )
    found_earlier (Continue all) earlier =
        some_missed (omega (arith, later.0, earlier.0, earlier.1, matched_none file c))
