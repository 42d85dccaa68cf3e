-- The whole answer: rules 20 and 21, the table of blocks, rule 27; and what is known of an image that is read.
use Prim.Native.Nat.{ℕ, zero, suc, ◌+◌, ◌<◌, ◌≤◌}
use mathlib.Core.Path.{◌≡◌, refl, ap, sym, ◌∙◌}
use mathlib.Core.Bool.{Bool, true, false, cond}
use mathlib.Core.List.{List, [], ◌∷◌, ◌++◌}
use native.Mathlib.Numerals.{add-one}
use native.Mathlib.Omega.{arith}
use lib.ListN.{length, drop, get_or}
use borrow.Author.Tests.{lt-ltb, le-ltb, ltb-true, ltb-false}
use Rattle.std.specs.Prelude.{Option, Some, None}
use Rattle.fields.specs.Counting.{joined, any_below, first_below, found_below}
use Rattle.fields.specs.Rules.{Rule, Outcome, refused, done, unless, Silent}
use Rattle.fields.specs.Answer.{answer_of}
use Rattle.fields.specs.Program.{Block, Source, blocks_of_parts, blocks_of, meet, no_block, meets_before, numbered}
use Rattle.fields.proofs.CountingLaws.{any_below_lem, first_known, any_is}
use Rattle.fields.proofs.RuleLaws.{silent_done, done_silent, silent_front, refused_front, silent_split, silent_none, silent_more, silent_at, refused_at}
use Rattle.image.specs.Reading.{table_rules, entry_in, blocks_in, meeting_rules, image_rules, image_source, read_image, reading_numbers, reading_of, numbers_of_reading}
use Rattle.image.specs.Walking.{block_at, Framed, Accepted}
use Rattle.image.specs.Steps.{table_reading}
use Rattle.image.specs.declared.Contents.{Contents}
use Rattle.image.proofs.WalkingLaws.{framed_few}
use Rattle.image.proofs.ReaderLaws.{length-numbered}
use Rattle.image.proofs.MeetingLaws.{meet_apart}

-- From an answer back to the outcome.

pub reading_refused : (o : Outcome Source) {code index : ℕ} → reading_of o ≡ refused code index → o ≡ refused code index
unfolding reading_of
reading_refused (refused c i) e = cc
reading_refused (done s) e = let z : ◌≡◌ {A = ℕ} 0 1 = cc in absurd (omega arith)

reading_done : (rs : List Rule) (a : Source) (c : Contents) → reading_of (unless rs a) ≡ done c → Silent rs × (c.entry ≡ a.entry) × (c.blocks ≡ length a.parts)
unfolding reading_of
reading_done rs a c e = go (unless rs a) refl e
  where
    go : (o : Outcome Source) → unless rs a ≡ o → reading_of o ≡ done c → Silent rs × (c.entry ≡ a.entry) × (c.blocks ≡ length a.parts)
    go (refused c i) q e = let z : ◌≡◌ {A = ℕ} 0 1 = cc in absurd (omega arith)
    go (done b) q e =
        let k = done_silent rs a b q in
        (k.0, rw k.1 (cc), rw k.1 (cc))

-- From what is found below a count to the tests.
module _ (test : ℕ → Bool) (n : ℕ) where
  pub found_at : (j : ℕ) → Some j ≡ found_below test n → (j < n) × (any_below test j ≡ false) × (test j ≡ true)
  unfolding found_below
  found_at j e = go (any_below test n) refl e
    where
      go : (t : Bool) → any_below test n ≡ t → Some j ≡ cond t (Some (first_below test n)) None → (j < n) × (any_below test j ≡ false) × (test j ≡ true)
      go false q e = let z : ◌≡◌ {A = ℕ} 0 1 = cc in absurd (omega arith)
      go true q e =
          let i : j ≡ first_below test n = cc in
          let first = first_known test n in
          let l : first_below test n < n = ltb-true _ _ (any_is test n ∙ q) in
          rw i (l, first.none, first.passes l)

  pub found_nowhere : None ≡ found_below test n → any_below test n ≡ false
  unfolding found_below
  found_nowhere e = go (any_below test n) refl e
    where
      go : (t : Bool) → any_below test n ≡ t → ◌≡◌ {A = Option ℕ} None (cond t (Some (first_below test n)) None) → any_below test n ≡ false
      go false q e = q
      go true q e = let z : ◌≡◌ {A = ℕ} 0 1 = cc in absurd (omega arith)

-- where no block meets an earlier one, no row of rule 27 holds
each_silent : (bs : List Block) (n : ℕ) → ((i : ℕ) → i < n → meets_before bs i ≡ false) → Silent (joined (meeting_rules bs) n)
each_silent bs zero h = silent_none (meeting_rules bs)
each_silent bs (suc n) h =
    rw (← (add-one n)) (silent_more (meeting_rules bs) n (each_silent bs n (λ i l. h i (omega arith))) (h n (omega arith), tt))

abbrev table : List ℕ → List Rule
table s = table_rules 4097 0 (drop 4 s)

abbrev meetings : List ℕ → List Rule
meetings s = joined (meeting_rules (blocks_in s)) (length (blocks_in s))

-- The answers of `read`.
module _ (s : List ℕ) where
  pub too_long_lem : 16777216 < length s → refused 20 0 ≡ reading_of (read_image s)
  unfolding reading_of read_image image_rules unless
  too_long_lem h = rw (lt-ltb _ _ h)

  pub too_short : length s ≤ 16777216 → length s < 4 → refused 21 0 ≡ reading_of (read_image s)
  unfolding reading_of read_image image_rules unless
  too_short h k = rw (le-ltb _ _ h, lt-ltb _ _ k)

  begins : length s ≤ 16777216 → 4 ≤ length s → read_image s ≡ unless (table s ++ meetings s) (image_source s)
  unfolding read_image image_rules unless
  begins h k = rw (le-ltb _ _ h, le-ltb _ _ k)

  pub table_refuses : length s ≤ 16777216 → 4 ≤ length s → {code index : ℕ} → table_reading s ≡ refused code index → refused code index ≡ reading_of (read_image s)
  unfolding table_reading reading_of
  table_refuses h k e =
      let q = reading_refused (unless (table s) (image_source s)) e in
      sym (ap reading_of (begins h k ∙ refused_front (table s) (meetings s) (image_source s) (image_source s) q))

  pub framed : length s ≤ 16777216 → 4 ≤ length s → (c : Contents) → table_reading s ≡ done c → Framed s × (c.entry ≡ entry_in s) × (c.blocks ≡ length (blocks_in s))
  unfolding table_reading image_source
  framed h k c e =
      let q = reading_done (table s) (image_source s) c e in
      (record { short = h; begun = k; sound = silent_done (table s) (image_source s) q.0 }, q.1, q.2 ∙ length-numbered 0 (blocks_in s))

  module _ (f : Framed s) where
    after_table : read_image s ≡ unless (meetings s) (image_source s)
    after_table =
        let q = done_silent (table s) (image_source s) (image_source s) f.sound in
        begins f.short f.begun ∙ silent_front (table s) (meetings s) (image_source s) q.0

    pub meets : (j : ℕ) → Some j ≡ found_below (meets_before (blocks_in s)) (length (blocks_in s)) → refused 27 j ≡ reading_of (read_image s)
    unfolding reading_of unless
    meets j e =
        let g = meeting_rules (blocks_in s) in
        let found = found_at (meets_before (blocks_in s)) (length (blocks_in s)) j e in
        let here : unless (g j) (image_source s) ≡ refused 27 j = rw (found.2) in
        let before = each_silent (blocks_in s) j (λ i l. any_below_lem (meets_before (blocks_in s)) j i l found.1) in
        sym (ap reading_of (after_table ∙ refused_at g (length (blocks_in s)) j (image_source s) (image_source s) found.0 before here))

    pub none_meet : None ≡ found_below (meets_before (blocks_in s)) (length (blocks_in s)) → done (record { entry = entry_in s; blocks = length (blocks_in s) }) ≡ reading_of (read_image s)
    unfolding reading_of image_source
    none_meet e =
        let none = found_nowhere (meets_before (blocks_in s)) (length (blocks_in s)) e in
        let q = each_silent (blocks_in s) (length (blocks_in s)) (λ i l. any_below_lem (meets_before (blocks_in s)) (length (blocks_in s)) i l none) in
        let n : length (blocks_in s) ≡ length (numbered 0 (blocks_in s)) = sym (length-numbered 0 (blocks_in s)) in
        rw n (sym (ap reading_of (after_table ∙ silent_done (meetings s) (image_source s) q)))

-- What the crates above know of an image that is read.

pub numbered_blocks : (k : ℕ) (bs : List Block) → blocks_of_parts (numbered k bs) ≡ bs
unfolding numbered
numbered_blocks k [] = refl
numbered_blocks k (b ∷ bs) = ap (λ (cs : List Block). b ∷ cs) (numbered_blocks (k + 1) bs)

pub source_blocks : (s : List ℕ) → blocks_of (image_source s) ≡ blocks_in s
unfolding blocks_of image_source
source_blocks s = numbered_blocks 0 (blocks_in s)

pub source_entry : (s : List ℕ) → (image_source s).entry ≡ entry_in s
unfolding image_source
source_entry s = refl

pub accepted : (s : List ℕ) (entry count : ℕ) → reading_of (read_image s) ≡ done (record { entry = entry; blocks = count }) → Accepted s entry count
unfolding read_image image_rules image_source meets_before block_at
accepted s entry count e =
    let k = reading_done (image_rules s) (image_source s) (record { entry = entry; blocks = count }) e in
    let q = silent_split (table s) (meetings s) k.0.1.1 in
    let n = k.2 ∙ length-numbered 0 (blocks_in s) in
    let short = ltb-false 16777216 (length s) k.0.0 in
    let f : Framed s = record { short = short; begun = ltb-false (length s) 4 k.0.1.0; sound = silent_done (table s) (image_source s) q.0 } in
    record {
      framed = f;
      read = silent_done (image_rules s) (image_source s) k.0;
      entry_is = k.1;
      count_is = n;
      few = omega (arith, framed_few s f);
      short = short;
      apart = λ i j l h.
          let row = silent_at (meeting_rules (blocks_in s)) (length (blocks_in s)) j (omega arith) q.1 in
          meet_apart (block_at s i) (block_at s j) (any_below_lem (λ i. meet (get_or (blocks_in s) i no_block) (get_or (blocks_in s) j no_block)) j i l row.0);
    }

-- the numbers of an answer are those of the outcome
pub reading_numbers_lem : (o : Outcome Source) {r : Outcome Contents} → r ≡ reading_of o → (r ≡ reading_of o) × (numbers_of_reading r ≡ reading_numbers o)
unfolding reading_of numbers_of_reading answer_of
reading_numbers_lem (refused code index) e = (e, rw e)
reading_numbers_lem (done s) e = (e, rw e)
