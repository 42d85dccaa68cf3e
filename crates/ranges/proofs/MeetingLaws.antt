-- Ranges are stacked, or lie clear of a cover, or one of a few is found to meet an earlier one or none of them is.
use Prim.Native.Nat.{ℕ, ◌+◌, ◌<◌, ◌≤◌, max, min}
use mathlib.Core.Path.{◌≡◌, refl, sym, ◌∙◌}
use mathlib.Core.Bool.{Bool, true, false, not, ◌||◌}
use mathlib.Core.List.{List}
use mathlib.Core.Logic.{⊎_elim}
use native.Mathlib.Nat.{eq-or-lt_of_le}
use native.Mathlib.Omega.{arith}
use lib.ListN.{length, set, take, replicate}
use lib.Seq.{length-take-le}
use lib.Dec.{ltb}
use borrow.Author.Tests.{ltb-true, not-true}
use Rattle.std.proofs.Common.{Some, None, is_some}
use Rattle.fields.specs.Counting.{any_below, found_below}
use Rattle.fields.proofs.CountingLaws.{any_same, found_none, found_some, found_any}
use Rattle.fields.proofs.TestLaws.{one_passes}
use Rattle.ranges.specs.Held.{meets_held}
use Rattle.ranges.specs.Cover.{firsts_with, lasts_with}
use Rattle.ranges.specs.Row.{meets_held_at}
use Rattle.ranges.specs.Search.{meets_earlier, meets_together, meets_one, NoneMeets, Holds}
use Rattle.ranges.specs.Steps.{load_in, size_in, Fewer, meets_in, first_in, Here, RangeOf, Known, Searched}
use Rattle.ranges.specs.declared.lined.Ranges.{Ranges}
use Rattle.ranges.specs.declared.row.Cursor.{Cursor}
use Rattle.ranges.specs.declared.row.Range.{Range}
use Rattle.ranges.proofs.HeldLaws.{holds_none, holds_more, holds_front, held_is}
use Rattle.ranges.proofs.CoverLaws.{covers_first, covers_more, clear_of_cover}
use Rattle.ranges.proofs.RowLaws.{lined_real}
use Rattle.ranges.proofs.SearchLaws.{together_none, together_more, together_found, among_one, none_first, none_next, none_more, none_below, outermost}

-- The ranges from number p on are held, k of them, and none of these meets another.
pub record Held (all : Ranges) (p : ℕ) (firsts lasts : List ℕ) (c : Cursor) (k : ℕ) : Type 0 where
  pub here : Here all c
  pub counted : c.number ≡ p + k
  pub none : meets_together (load_in all) (size_in all) p k ≡ false
  pub holds : Holds (load_in all) (size_in all) p k firsts lasts

module _ (all : Ranges) (p : ℕ) (firsts lasts : List ℕ) where
  pub held_first : (c : Cursor) → Here all c → c.number ≡ p → Held all p firsts lasts c 0
  held_first c h e = record { here = h; counted = omega arith; none = together_none _ _ p; holds = holds_none _ _ p firsts lasts }

  module _ (c : Cursor) (k : ℕ) (v : Held all p firsts lasts c k) (l : k < length firsts) (m : k < length lasts) (r : Range) (t : RangeOf all c.number r) where
    -- what is asked of those held is asked of the next range
    next_asked : meets_held (take k firsts) (take k lasts) r.span.first r.span.last ≡ meets_one (load_in all) (size_in all) p k (p + k)
    next_asked =
        held_is _ _ p k (take k firsts) (take k lasts) (holds_front _ _ p k firsts lasts v.holds) (length-take-le k firsts (omega arith)) (p + k) r.span.first r.span.last
        (rw (← v.counted) t.begins)
        (rw (← v.counted) t.ends)

    pub held_on : meets_held (take k firsts) (take k lasts) r.span.first r.span.last ≡ false → Held all p (set firsts k r.span.first) (set lasts k r.span.last) r.next (k + 1)
    held_on e =
        record {
          here = t.next;
          counted = omega (arith, t.one_on, v.counted);
          none = together_more _ _ p k v.none (sym next_asked ∙ e);
          holds = holds_more _ _ p k firsts lasts v.holds l m r.span.first r.span.last (rw (← v.counted) t.begins) (rw (← v.counted) t.ends);
        }

    pub held_found : (n : ℕ) → k < n → meets_held (take k firsts) (take k lasts) r.span.first r.span.last ≡ true → meets_together (load_in all) (size_in all) p n ≡ true
    held_found n b e = together_found _ _ p n k b (sym next_asked ∙ e)

-- Of those before number p one shares an address with one of those held where one meets one of the ranges from p on.
pub any_before : (all : Ranges) (p n : ℕ) (firsts lasts : List ℕ) → Holds (load_in all) (size_in all) p n firsts lasts → length firsts ≡ n → p ≤ all.count → (front : Ranges) → Fewer all p front → is_some (found_below (meets_held_at front.row front.bytes.now front.at firsts lasts) front.count) ≡ any_below (meets_one (load_in all) (size_in all) p n) p
unfolding meets_held_at
any_before all p n firsts lasts h long b front f =
    rw (f.bytes, f.row, f.at, f.count)
    (found_any _ p
    ∙ any_same _ _ p (λ i l. let k = lined_real _ _ _ _ all.lined i (omega arith) in held_is _ _ p n firsts lasts h long i _ _ refl (omega (arith, k))))

-- Each range before the cursor lies above all before it or below them all, and so meets none; all lie from `lowest` to `highest`.
pub record Stacked (all : Ranges) (lowest highest : ℕ) (c : Cursor) : Type 0 where
  pub here : Here all c
  pub known : Known all c.number
  pub lie : (i : ℕ) → i < c.number → (lowest ≤ load_in all i) × (load_in all i + size_in all i ≤ highest + 1)

module _ (all : Ranges) where
  known_next : (n : ℕ) → Known all n → n < all.count → meets_earlier (load_in all) (size_in all) n ≡ false → Known all (n + 1)
  known_next n k l e = record { low = omega arith; none = none_next _ _ n k.none e }

  pub known_more : (p few : ℕ) → Known all p → p + few ≤ all.count → meets_in all p few ≡ false → Known all (p + few)
  known_more p few k l d = record { low = l; none = none_more _ _ p few k.none d }

  known_first : 0 < all.count → Known all 1
  known_first l = record { low = omega arith; none = none_first _ _ }

  module _ (r : Range) (b : RangeOf all 0 r) (m : 0 < all.count) where
    one : r.next.number ≡ 1
    one = omega (arith, b.one_on)

    pub stacked_first : Stacked all r.span.first r.span.last r.next
    stacked_first =
        record {
          here = b.next;
          known = rw one (known_first m);
          lie = λ i l.
              let e : i ≡ 0 = omega (arith, one) in
              rw e (omega (arith, b.begins), omega (arith, b.ends));
        }

    pub searched_first : Searched all (replicate 8 r.span.first) (replicate 8 r.span.last) r.next
    searched_first =
        record {
          here = b.next;
          known = rw one (known_first m);
          covered = rw one (covers_first _ _ 8 r.span.first r.span.last (omega arith) b.begins b.ends);
        }

  pub stacked_on : (lowest highest : ℕ) (c : Cursor) → Stacked all lowest highest c → (r : Range) → RangeOf all c.number r → c.number < all.count → ltb highest r.span.first || ltb r.span.last lowest ≡ true → Stacked all (min lowest r.span.first) (max highest r.span.last) r.next
  stacked_on lowest highest c w r t m k =
      let alone = outermost _ _ c.number lowest highest r.span.first r.span.last w.lie t.begins t.ends k in
      record {
        here = t.next;
        known = rw t.one_on (known_next c.number w.known m alone);
        lie = λ i l.
            ⊎_elim
            (λ q. rw q (omega (arith, t.begins), omega (arith, t.ends)))
            (λ k. let p = w.lie i k in (omega (arith, p), omega (arith, p)))
            (eq-or-lt_of_le {n = i} {m = c.number} (omega (arith, t.one_on)));
      }

  module _ (firsts lasts : List ℕ) (c : Cursor) (w : Searched all firsts lasts c) (r : Range) (t : RangeOf all c.number r) where
    -- a range that is known to, or lies clear of the cover, meets no earlier one
    pub passes : (known : ℕ) → Known all known → (met : Bool) → met ≡ meets_held firsts lasts r.span.first r.span.last → ltb c.number known || not met ≡ true → meets_earlier (load_in all) (size_in all) c.number ≡ false
    passes known v met e k =
        ⊎_elim
        (λ l. none_below _ _ known c.number (ltb-true _ _ l) v.none)
        (λ l. clear_of_cover _ _ c.number firsts lasts w.covered r.span.first r.span.last t.begins t.ends (sym e ∙ not-true _ l))
        (one_passes _ _ k)

    pub searched_on : length lasts ≡ length firsts → 1 < length firsts → meets_earlier (load_in all) (size_in all) c.number ≡ false → c.number < all.count → Searched all (firsts_with firsts lasts r.span.first r.span.last) (lasts_with firsts lasts r.span.first r.span.last) r.next
    searched_on same some e m =
        record {
          here = t.next;
          known = rw t.one_on (known_next c.number w.known m e);
          covered = rw t.one_on (covers_more _ _ c.number firsts lasts w.covered r.span.first r.span.last t.begins t.ends same some);
        }

  pub none_meets : (p : ℕ) → all.count ≤ p → Known all p → None ≡ first_in all
  unfolding NoneMeets
  none_meets p l k = let e : all.count ≡ p = omega (arith, k.low) in found_none _ all.count (rw e k.none)

  pub one_meets : (p few : ℕ) → p < all.count → Known all p → meets_in all p few ≡ true → few ≡ 1 → Some p ≡ first_in all
  unfolding NoneMeets
  one_meets p few l k e q = found_some _ all.count p l k.none (sym (among_one _ _ p) ∙ rw q at e)

-- What holds where passing begins again: the ranges to look at together are few, and some.
pub record Searching (all : Ranges) (firsts lasts : List ℕ) (c : Cursor) (known few : ℕ) : Type 0 where
  pub searched : Searched all firsts lasts c
  pub known_too : Known all known
  pub some : 0 < few
  pub small : few ≤ 32
