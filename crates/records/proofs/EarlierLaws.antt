-- The first record that meets a block or an earlier record, and what it means for the rules on these.
use Prim.Native.Nat.{ℕ, zero, suc, ◌+◌, ◌-◌, ◌<◌, ◌≤◌}
use mathlib.Core.Path.{◌≡◌, refl, sym, ◌∙◌}
use mathlib.Core.Bool.{Bool, true, false, ◌||◌}
use mathlib.Core.List.{List, [], ◌++◌}
use native.Mathlib.Numerals.{add-one}
use native.Mathlib.Omega.{arith}
use lib.ListN.{length, get_or}
use Rattle.std.proofs.Common.{Some, None}
use Rattle.std.specs.Option.{unwrap_or, option_or}
use Rattle.fields.specs.Counting.{joined, found_below}
use Rattle.fields.specs.Program.{Block, no_block, share, meet, meets_before, meets_any}
use Rattle.fields.specs.Rules.{refused, unless, Silent}
use Rattle.fields.proofs.BlockLaws.{meets_append}
use Rattle.fields.proofs.CountingLaws.{any_same, any_below_lem, found_same, found_either, found_known, none_found}
use Rattle.fields.proofs.RuleLaws.{broken, silent_none, silent_more, refused_at}
use Rattle.fields.proofs.TestLaws.{or_swapped}
use Rattle.ranges.specs.Held.{meets_held}
use Rattle.ranges.specs.Row.{load_of, size_of, meets_held_at}
use Rattle.ranges.specs.Search.{meets_earlier}
use Rattle.records.specs.Meeting.{record_meets, record_meeting_rule, record_meeting_rules}
use Rattle.records.specs.Walking.{row_of, record_at, records_at, Recorded}
use Rattle.records.proofs.RecordLaws.{record_of, record_real, length_record}

module _ (turned : Bool) (t : List ℕ) (n : ℕ) (h : Recorded turned t n) where
  -- two records meet where their ranges do
  pub meet_ranges : (i j : ℕ) → i < n → j < n → meet (record_at turned t i) (record_at turned t j) ≡ share (load_of (row_of turned) t 0 i) (size_of (row_of turned) t 0 i) (load_of (row_of turned) t 0 j) (size_of (row_of turned) t 0 j)
  unfolding meet
  meet_ranges i j l m = rw (length_record turned t n h i l, length_record turned t n h j m) (unfold record_at in refl)

  pub before_earlier : (r : ℕ) → r < n → meets_before (records_at turned t n) r ≡ meets_earlier (load_of (row_of turned) t 0) (size_of (row_of turned) t 0) r
  unfolding meets_before meets_earlier
  before_earlier r l =
      any_same _ _ r
      (λ i m. rw (record_of turned t n i (omega arith), record_of turned t n r l) (meet_ranges i r (omega arith) l))

  pub first_earlier : found_below (meets_before (records_at turned t n)) n ≡ found_below (meets_earlier (load_of (row_of turned) t 0) (size_of (row_of turned) t 0)) n
  first_earlier = found_same _ _ n before_earlier

-- Of any blocks and records: the first that meets a block, among those before the first that meets an earlier record; else this one.
pub first_meets : (bs records : List Block) (n : ℕ) → option_or (found_below (λ r. meets_any bs (get_or records r no_block)) (unwrap_or (found_below (meets_before records) n) n)) (found_below (meets_before records) n) ≡ found_below (record_meets bs records) n
unfolding record_meets
first_meets bs records n =
    found_either (meets_before records) (λ r. meets_any bs (get_or records r no_block)) n
    ∙ found_same _ _ n (λ r l. or_swapped (meets_before records r) (meets_any bs (get_or records r no_block)))

-- Blocks a few at a time: none yet, and some more.
pub first_none_held : (records : List Block) (n : ℕ) → found_below (meets_before records) n ≡ found_below (record_meets [] records) n
unfolding record_meets meets_any
first_none_held records n = refl

pub first_more_held : (bs cs records : List Block) (n : ℕ) → option_or (found_below (λ r. meets_any cs (get_or records r no_block)) (unwrap_or (found_below (record_meets bs records) n) n)) (found_below (record_meets bs records) n) ≡ found_below (record_meets (bs ++ cs) records) n
unfolding record_meets
first_more_held bs cs records n =
    found_either (record_meets bs records) (λ r. meets_any cs (get_or records r no_block)) n
    ∙ found_same _ _ n
    (λ r l.
    swapped_in (meets_any bs (get_or records r no_block)) (meets_before records r) (meets_any cs (get_or records r no_block))
    ∙ rw (meets_append (get_or records r no_block) bs cs))
  where
    swapped_in : (a b c : Bool) → (a || b) || c ≡ (a || c) || b
    swapped_in true b c = refl
    swapped_in false b c = or_swapped b c

-- ranges that are held, and that a block meets where it meets one of some blocks, are met by a record where it meets one of these
pub first_of_held : (turned : Bool) (t : List ℕ) (n : ℕ) → Recorded turned t n → (firsts lasts : List ℕ) (cs : List Block) → ((c : Block) → 0 < length c.bytes → meets_held firsts lasts c.load (c.load + length c.bytes - 1) ≡ meets_any cs c) → (m : ℕ) → m ≤ n → found_below (meets_held_at (row_of turned) t 0 firsts lasts) m ≡ found_below (λ r. meets_any cs (get_or (records_at turned t n) r no_block)) m
unfolding meets_held_at
first_of_held turned t n h firsts lasts cs k m low =
    found_same _ _ m
    (λ r l.
    let e = length_record turned t n h r (omega arith) in
    rw (record_of turned t n r (omega arith)) (sym (sym (k (record_at turned t r) (rw e (record_real turned t n h r (omega arith)))) ∙ rw e (unfold record_at in refl))))

module _ (code next : ℕ) (bs records : List Block) where
  silent_before : (n : ℕ) → ((r : ℕ) → r < n → record_meets bs records r ≡ false) → Silent (joined (record_meeting_rule code next bs records) n)
  silent_before zero h = silent_none (record_meeting_rule code next bs records)
  silent_before (suc n) h =
      rw (← (add-one n)) (silent_more (record_meeting_rule code next bs records) n (silent_before n (λ r l. h r (omega arith))) (h n (omega arith), tt))

  -- where none meets, no rule holds; else the first that does decides
  pub meeting_silent : None ≡ found_below (record_meets bs records) (length records) → Silent (record_meeting_rules code next bs records)
  unfolding record_meeting_rules
  meeting_silent e =
      silent_before (length records) (λ r l. any_below_lem (record_meets bs records) (length records) r l (none_found _ _ e))

  pub meeting_refused : {A : Type 0} (a : A) (r : ℕ) → Some r ≡ found_below (record_meets bs records) (length records) → unless (record_meeting_rules code next bs records) a ≡ refused code (next + r)
  unfolding record_meeting_rules
  meeting_refused a r e =
      let k = found_known _ _ r e in
      refused_at (record_meeting_rule code next bs records) (length records) r a a k.0
      (silent_before r (λ i m. any_below_lem (record_meets bs records) r i m k.1))
      (broken 0 (record_meeting_rule code next bs records r) a (tt, (k.2, refl, refl)))
