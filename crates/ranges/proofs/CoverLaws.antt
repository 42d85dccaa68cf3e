-- Widening one of a few ranges, or making one of two, loses nothing that lay within them.
use Prim.Native.Nat.{ℕ, zero, suc, ◌+◌, ◌-◌, ◌<◌, ◌≤◌, max, min}
use mathlib.Core.Path.{◌≡◌, refl, sym, ◌∙◌}
use mathlib.Core.Bool.{Bool, true, false, not, ◌&&◌, or-true, cond}
use mathlib.Core.List.{List}
use mathlib.Core.Logic.{◌⊎◌, inl, inr, ⊎_elim}
use native.Mathlib.Nat.{eq-or-lt_of_le, le_refl}
use native.Mathlib.Numerals.{add-one}
use native.Mathlib.Omega.{arith}
use lib.ListN.{length, get_or, set, replicate, length-set, length-replicate, get_or-replicate}
use lib.Seq.{get_or-set_same, get_or-set_other}
use lib.Dec.{ltb, eqb}
use borrow.Author.Tests.{eqb-true, eqb-false, le-leb, lt-leb}
use Rattle.fields.proofs.CountingLaws.{none_passes}
use Rattle.ranges.specs.Held.{meets_held}
use Rattle.ranges.specs.Search.{meets_earlier}
use Rattle.ranges.specs.Cover.{Covers, Grown, gap_to, least_but, nearest_but, nearest_to, beside_of, apart_at, closest_of, is_near, reached, stretched, firsts_joined, lasts_joined, firsts_with, lasts_with}
use Rattle.ranges.proofs.HeldLaws.{held_apart, apart_share}

same_or_not : (i k : ℕ) → (i ≡ k) ⊎ (i ≡ k → ⊥)
same_or_not i k = go (eqb i k) refl
  where
    go : (t : Bool) → eqb i k ≡ t → (i ≡ k) ⊎ (i ≡ k → ⊥)
    go true q = inl (eqb-true i k q)
    go false q = inr (eqb-false i k q)

-- a number put in place of a larger one leaves none larger than it was; and so for smaller
lowered : (l : List ℕ) (k v : ℕ) → k < length l → v ≤ get_or l k 0 → (i : ℕ) → get_or (set l k v) i 0 ≤ get_or l i 0
lowered l k v b h i =
    ⊎_elim
    (λ q. rw q (rw (get_or-set_same l k v 0 b) h))
    (λ q. rw (get_or-set_other l k i v 0 q) (le_refl _))
    (same_or_not i k)

raised : (l : List ℕ) (k v : ℕ) → k < length l → get_or l k 0 ≤ v → (i : ℕ) → get_or l i 0 ≤ get_or (set l k v) i 0
raised l k v b h i =
    ⊎_elim
    (λ q. rw q (rw (get_or-set_same l k v 0 b) h))
    (λ q. rw (get_or-set_other l k i v 0 q) (le_refl _))
    (same_or_not i k)

-- What is least is found number by number; it is one of those held, and not the one that is left out.

-- one number more is looked at
pub least_turn : (but : ℕ) (value : ℕ → ℕ) (d k found least away : ℕ) → (found ≡ least_but but value d k) × (least ≡ value found) → away ≡ value k → (t : Bool) → ltb away least && not (eqb k but) ≡ t → (found' least' : ℕ) → found' ≡ cond t k found → least' ≡ cond t away least → (found' ≡ least_but but value d (k + 1)) × (least' ≡ value found')
unfolding least_but
least_turn but value d k found least away v r true e found' least' f l = (f ∙ rw (add-one, ← v.0, ← v.1, ← r, e), l ∙ r ∙ rw f refl)
least_turn but value d k found least away v r false e found' least' f l = (f ∙ rw (add-one, ← v.0, ← v.1, ← r, e), l ∙ v.1 ∙ rw f refl)

pub least_none : (but : ℕ) (value : ℕ → ℕ) (d : ℕ) → least_but but value d 0 ≡ d
unfolding least_but
least_none but value d = refl

least_below : (but : ℕ) (value : ℕ → ℕ) (d m n : ℕ) → d < m → n ≤ m → least_but but value d n < m
unfolding least_but
least_below but value d m zero h l = h
least_below but value d m (suc n) h l = go (ltb (value n) (value (least_but but value d n)) && not (eqb n but)) (least_below but value d m n h (omega arith))
  where
    go : (t : Bool) → least_but but value d n < m → cond t n (least_but but value d n) < m
    go true k = omega arith
    go false k = k

least_other : (but : ℕ) (value : ℕ → ℕ) (d n : ℕ) → (d ≡ but → ⊥) → least_but but value d n ≡ but → ⊥
unfolding least_but
least_other but value d zero h e = h e
least_other but value d (suc n) h e = go (ltb (value n) (value (least_but but value d n))) (eqb n but) refl (least_other but value d n h) e
  where
    go : (a b : Bool) → eqb n but ≡ b → (least_but but value d n ≡ but → ⊥) → cond (a && not b) n (least_but but value d n) ≡ but → ⊥
    go true false q k z = eqb-false n but q z
    go true true q k z = k z
    go false b q k z = k z

module _ (firsts lasts : List ℕ) (some : 1 < length firsts) where
  pub nearest_below : (first last but : ℕ) → nearest_but firsts lasts first last but < length firsts
  unfolding nearest_but
  nearest_below first last but = least_below but _ (cond (eqb but 0) 1 0) (length firsts) (length firsts) (go (eqb but 0)) (le_refl _)
    where
      go : (t : Bool) → cond t 1 0 < length firsts
      go true = some
      go false = omega arith

  nearest_other : (first last but : ℕ) → nearest_but firsts lasts first last but ≡ but → ⊥
  unfolding nearest_but
  nearest_other first last but = least_other but _ (cond (eqb but 0) 1 0) (length firsts) (go (eqb but 0) refl)
    where
      go : (t : Bool) → eqb but 0 ≡ t → cond t 1 0 ≡ but → ⊥
      go true q z = absurd (omega (arith, eqb-true but 0 q, z))
      go false q z = eqb-false but 0 q (sym z)

  pub beside_below : (k : ℕ) → beside_of firsts lasts k < length firsts
  unfolding beside_of
  beside_below k = nearest_below _ _ k

  beside_other : (k : ℕ) → beside_of firsts lasts k ≡ k → ⊥
  unfolding beside_of
  beside_other k = nearest_other _ _ k

  pub closest_below : closest_of firsts lasts < length firsts
  unfolding closest_of
  closest_below = least_below (length firsts) _ 0 (length firsts) (length firsts) (omega arith) (le_refl _)

module _ (firsts lasts : List ℕ) (same : length lasts ≡ length firsts) where
  pub widened : (k first last : ℕ) → k < length firsts → Grown firsts lasts first last (reached firsts k first) (stretched lasts k last)
  unfolding reached stretched
  widened k first last b =
      let low = lowered firsts k (min (get_or firsts k 0) first) b (omega arith) in
      let high = raised lasts k (max (get_or lasts k 0) last) (omega arith) (omega arith) in
      record {
        keeps = λ a z w.
            let f = low w.at in
            let l = high w.at in
            record { at = w.at; held = rw (length-set firsts k _) w.held; begins = omega (arith, w.begins); ends = omega (arith, w.ends) };
        holds =
            record {
              at = k;
              held = rw (length-set firsts k _) b;
              begins = rw (get_or-set_same firsts k (min (get_or firsts k 0) first) 0 b) (omega arith);
              ends = rw (get_or-set_same lasts k (max (get_or lasts k 0) last) 0 (omega arith)) (omega arith);
            };
      }

  -- the one at `other` goes into the one at `one`, and gives its place to another
  pub joined : (one other first last : ℕ) → one < length firsts → other < length firsts → (one ≡ other → ⊥) → Grown firsts lasts first last (firsts_joined firsts one other first) (lasts_joined lasts one other last)
  unfolding firsts_joined lasts_joined reached stretched
  joined one other first last b d n =
      let f = min (get_or firsts one 0) (get_or firsts other 0) in
      let l = max (get_or lasts one 0) (get_or lasts other 0) in
      let firsts' = set firsts one f in
      let lasts' = set lasts one l in
      let low = lowered firsts one f b (omega arith) in
      let high = raised lasts one l (omega arith) (omega arith) in
      let long : length (set firsts' other first) ≡ length firsts = rw (length-set firsts' other first, length-set firsts one f) refl in
      let d' : other < length firsts' = rw (length-set firsts one f) d in
      let e' : other < length lasts' = rw (length-set lasts one l) (omega arith) in
      record {
        keeps = λ a z w.
            ⊎_elim
            (λ q.
            let begins = rw q at w.begins in
            let ends = rw q at w.ends in
            record {
              at = one;
              held = rw long b;
              begins = rw (get_or-set_other firsts' other one first 0 n, get_or-set_same firsts one f 0 b) (omega arith);
              ends = rw (get_or-set_other lasts' other one last 0 n, get_or-set_same lasts one l 0 (omega arith)) (omega arith);
            })
            (λ q.
            let x = low w.at in
            let y = high w.at in
            record {
              at = w.at;
              held = rw long w.held;
              begins = rw (get_or-set_other firsts' other w.at first 0 q) (omega (arith, w.begins));
              ends = rw (get_or-set_other lasts' other w.at last 0 q) (omega (arith, w.ends));
            })
            (same_or_not w.at other);
        holds =
            record {
              at = other;
              held = rw long d;
              begins = rw (get_or-set_same firsts' other first 0 d') (le_refl _);
              ends = rw (get_or-set_same lasts' other last 0 e') (le_refl _);
            };
      }

  taken_in : (first last : ℕ) → 1 < length firsts → Grown firsts lasts first last (firsts_with firsts lasts first last) (lasts_with firsts lasts first last)
  unfolding firsts_with lasts_with nearest_to
  taken_in first last some = go (is_near firsts lasts first last (nearest_but firsts lasts first last (length firsts)))
    where
      go : (t : Bool) →
          Grown firsts lasts first last
          (cond t (reached firsts (nearest_but firsts lasts first last (length firsts)) first) (firsts_joined firsts (closest_of firsts lasts) (beside_of firsts lasts (closest_of firsts lasts)) first))
          (cond t (stretched lasts (nearest_but firsts lasts first last (length firsts)) last) (lasts_joined lasts (closest_of firsts lasts) (beside_of firsts lasts (closest_of firsts lasts)) last))
      go true = widened _ first last (nearest_below firsts lasts some first last (length firsts))
      go false = joined _ _ first last (closest_below firsts lasts some) (beside_below firsts lasts some _) (λ e. beside_other firsts lasts some _ (sym e))

-- How one more is taken in, by the tests that decide it.

module _ (firsts lasts : List ℕ) (first last k away : ℕ) (p : k ≡ nearest_but firsts lasts first last (length firsts)) (q : away ≡ gap_to firsts lasts first last k) where
  pub taken_beside : away ≤ last - first → (reached firsts k first ≡ firsts_with firsts lasts first last) × (stretched lasts k last ≡ lasts_with firsts lasts first last)
  unfolding firsts_with lasts_with nearest_to is_near
  taken_beside h = (rw (← p, ← q, le-leb _ _ h), rw (← p, ← q, le-leb _ _ h))

  module _ (one far : ℕ) (c : one ≡ closest_of firsts lasts) (d : far ≡ apart_at firsts lasts one) where
    pub taken_near : away ≤ far → (reached firsts k first ≡ firsts_with firsts lasts first last) × (stretched lasts k last ≡ lasts_with firsts lasts first last)
    unfolding firsts_with lasts_with nearest_to is_near
    taken_near h = (rw (← p, ← q, ← c, ← d, le-leb _ _ h, or-true), rw (← p, ← q, ← c, ← d, le-leb _ _ h, or-true))

    pub taken_far : last - first < away → far < away → (firsts_joined firsts one (beside_of firsts lasts one) first ≡ firsts_with firsts lasts first last) × (lasts_joined lasts one (beside_of firsts lasts one) last ≡ lasts_with firsts lasts first last)
    unfolding firsts_with lasts_with nearest_to is_near
    taken_far h l = (rw (← p, ← q, ← c, ← d, lt-leb _ _ h, lt-leb _ _ l), rw (← p, ← q, ← c, ← d, lt-leb _ _ h, lt-leb _ _ l))

-- It leaves the lists as long as they were.

stores_long : (l : List ℕ) (t : Bool) (k v i w j u : ℕ) → length (cond t (set l k v) (set (set l i w) j u)) ≡ length l
stores_long l true k v i w j u = length-set l k v
stores_long l false k v i w j u = length-set (set l i w) j u ∙ length-set l i w

pub firsts_long : (firsts lasts : List ℕ) (first last : ℕ) → length (firsts_with firsts lasts first last) ≡ length firsts
unfolding firsts_with firsts_joined reached
firsts_long firsts lasts first last = stores_long firsts (is_near firsts lasts first last (nearest_to firsts lasts first last)) _ _ _ _ _ _

pub lasts_long : (firsts lasts : List ℕ) (first last : ℕ) → length (lasts_with firsts lasts first last) ≡ length lasts
unfolding lasts_with lasts_joined stretched
lasts_long firsts lasts first last = stores_long lasts (is_near firsts lasts first last (nearest_to firsts lasts first last)) _ _ _ _ _ _

-- All ranges below a number.

module _ (load size : ℕ → ℕ) where
  -- .. the first alone, which all those held are at the start
  pub covers_first : (n first last : ℕ) → 0 < n → first ≡ load 0 → last + 1 ≡ load 0 + size 0 → Covers load size 1 (replicate n first) (replicate n last)
  covers_first n first last h p q =
      record {
        each = λ i l.
            let e : i ≡ 0 = omega arith in
            rw e
            (record {
              at = 0;
              held = rw (length-replicate n first) h;
              begins = rw (get_or-replicate n 0 first 0 h) (omega arith);
              ends = rw (get_or-replicate n 0 last 0 h) (omega arith);
            });
      }

  module _ (n : ℕ) (firsts lasts : List ℕ) (w : Covers load size n firsts lasts) (first last : ℕ) (p : first ≡ load n) (q : last + 1 ≡ load n + size n) where
    pub covers_more : length lasts ≡ length firsts → 1 < length firsts → Covers load size (n + 1) (firsts_with firsts lasts first last) (lasts_with firsts lasts first last)
    covers_more same some =
        let g = taken_in firsts lasts same first last some in
        let e : last ≡ load n + size n - 1 = omega arith in
        record {
          each = λ i l.
              ⊎_elim
              (λ s. rw s (rw (← e, ← p) g.holds))
              (λ s. g.keeps _ _ (w.each i s))
              (eq-or-lt_of_le {n = i} {m = n} (omega arith));
        }

    -- the next one, where it shares no address with those held, meets none of them
    pub clear_of_cover : meets_held firsts lasts first last ≡ false → meets_earlier load size n ≡ false
    unfolding meets_earlier
    clear_of_cover e =
        none_passes _ n
        (λ i l.
        let v = w.each i l in
        apart_share (load i) (size i) (load n) (size n)
        (⊎_elim
        (λ s. inl (omega (arith, v.ends)))
        (λ s. inr (omega (arith, v.begins)))
        (held_apart firsts lasts first last e v.at v.held)))
