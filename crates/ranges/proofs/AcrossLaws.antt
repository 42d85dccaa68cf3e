-- A few ranges of a row are held at a time, and the ranges of another row are asked whether they meet one of these.
use Prim.Native.Nat.{ℕ, ◌+◌, ◌-◌, ◌<◌, ◌≤◌}
use mathlib.Core.Path.{◌≡◌, sym, ◌∙◌}
use mathlib.Core.Bool.{◌||◌}
use mathlib.Core.List.{List}
use native.Mathlib.Omega.{arith}
use lib.ListN.{length, set}
use Rattle.std.proofs.Common.{Option, None}
use Rattle.std.specs.Option.{unwrap_or, option_or}
use Rattle.fields.specs.Counting.{any_below, found_below}
use Rattle.fields.specs.Program.{share}
use Rattle.fields.proofs.CountingLaws.{any_none, any_further, first_known, none_passes, found_none, found_first, found_same, found_either}
use Rattle.ranges.specs.Across.{meets_across}
use Rattle.ranges.specs.Held.{meets_held}
use Rattle.ranges.specs.Row.{meets_held_at}
use Rattle.ranges.specs.Search.{Holds}
use Rattle.ranges.specs.Steps.{First, load_in, size_in, Fewer, Here, RangeOf, FewHeld}
use Rattle.ranges.specs.declared.lined.Ranges.{Ranges}
use Rattle.ranges.specs.declared.row.Cursor.{Cursor}
use Rattle.ranges.specs.declared.row.Range.{Range}
use Rattle.ranges.proofs.HeldLaws.{holds_none, holds_more, held_any}
use Rattle.ranges.proofs.RowLaws.{here_first, lined_real}

-- Of the ranges from number p on k are held.
pub record Filled (all : Ranges) (p : ℕ) (firsts lasts : List ℕ) (c : Cursor) (k : ℕ) : Type 0 where
  pub here : Here all c
  pub counted : c.number ≡ p + k
  pub holds : Holds (load_in all) (size_in all) p k firsts lasts

module _ (all : Ranges) (p : ℕ) (firsts lasts : List ℕ) where
  pub filled_first : (c : Cursor) → Here all c → c.number ≡ p → Filled all p firsts lasts c 0
  filled_first c h e = record { here = h; counted = omega arith; holds = holds_none _ _ p firsts lasts }

  pub filled_on : (c : Cursor) (k : ℕ) → Filled all p firsts lasts c k → k < length firsts → k < length lasts → (r : Range) → RangeOf all c.number r → Filled all p (set firsts k r.span.first) (set lasts k r.span.last) r.next (k + 1)
  filled_on c k v l m r t =
      record {
        here = t.next;
        counted = omega (arith, t.one_on, v.counted);
        holds = holds_more _ _ p k firsts lasts v.holds l m r.span.first r.span.last (rw (← v.counted) t.begins) (rw (← v.counted) t.ends);
      }

-- The ranges before the cursor have been asked for, and this is the first of the others that meets one of them.
pub record Crossed (all others : Ranges) (found : Option ℕ) (c : Cursor) : Type 0 where
  pub here : Here all c
  pub low : c.number ≤ all.count
  pub first : found ≡ found_below (meets_across all.row all.bytes.now all.at c.number others.row others.bytes.now others.at) others.count

module _ (all others : Ranges) where
  pub crossed_first : (c : Cursor) → First all.at c → Crossed all others None c
  unfolding meets_across
  crossed_first c f =
      record {
        here = here_first all c f;
        low = omega (arith, f.number);
        first = rw f.number (found_none _ others.count (none_passes _ others.count (λ i l. any_none _)));
      }

  -- a range meets one of those held where it meets one of the n from number p on
  held_further : (p n : ℕ) (firsts lasts : List ℕ) → Holds (load_in all) (size_in all) p n firsts lasts → length firsts ≡ n → (load size : ℕ) → 0 < size → meets_held firsts lasts load (load + size - 1) ≡ any_below (λ k. share (load_in all (p + k)) (size_in all (p + k)) load size) n
  held_further p n firsts lasts h long load size real = held_any _ _ p n firsts lasts h long load size (load + size - 1) (omega (arith, real))

  -- one of p + n is met where one of the first p is, or one of the n held behind them
  across_further : (p n : ℕ) (firsts lasts : List ℕ) → Holds (load_in all) (size_in all) p n firsts lasts → length firsts ≡ n → (i : ℕ) → 0 < size_in others i → meets_across all.row all.bytes.now all.at p others.row others.bytes.now others.at i || meets_held_at others.row others.bytes.now others.at firsts lasts i ≡ meets_across all.row all.bytes.now all.at (p + n) others.row others.bytes.now others.at i
  unfolding meets_across meets_held_at
  across_further p n firsts lasts h long i real =
      rw (held_further p n firsts lasts h long (load_in others i) (size_in others i) real)
      (sym (any_further (λ j. share (load_in all j) (size_in all j) (load_in others i) (size_in others i)) p n))

  module _ (found : Option ℕ) (c : Cursor) (v : Crossed all others found c) where
    pub found_low : unwrap_or found others.count ≤ others.count
    found_low = rw (v.first, found_first) (first_known _ others.count).low

    pub crossed_on : (n : ℕ) → c.number + n ≤ all.count → (firsts lasts : List ℕ) → length firsts ≡ n → (r : Cursor) → FewHeld all c.number n firsts lasts r → (front : Ranges) → Fewer others (unwrap_or found others.count) front → (found' : Option ℕ) → found' ≡ option_or (found_below (meets_held_at front.row front.bytes.now front.at firsts lasts) front.count) found → Crossed all others found' r
    crossed_on n l firsts lasts long r h front f found' e =
        record {
          here = h.here;
          low = omega (arith, h.counted);
          first =
              e
              ∙ rw (f.bytes, f.row, f.at, f.count, v.first, h.counted)
              (found_either _ _ others.count
              ∙ found_same _ _ others.count
              (λ i k. across_further c.number n firsts lasts h.holds long i (lined_real _ _ _ _ others.lined i k)));
        }
