-- A few ranges that cover many, and how one more is taken in.
use Rattle.std.specs.Prelude.{ℕ, zero, suc, ◌+◌, ◌-◌, ◌<◌, ◌≤◌, max, min, Bool, not, ◌&&◌, ◌||◌, cond, List, length, get_or, set, leb, ltb, eqb}

-- the range from `first` to `last` lies within one of those held
pub record Within (firsts lasts : List ℕ) (first last : ℕ) : Type 0 where
  pub at : ℕ
  pub held : at < length firsts
  pub begins : get_or firsts at 0 ≤ first
  pub ends : last ≤ get_or lasts at 0

-- all ranges below a number do; none of them is empty
pub record Covers (load size : ℕ → ℕ) (n : ℕ) (firsts lasts : List ℕ) : Type 0 where
  pub each : (i : ℕ) → i < n → Within firsts lasts (load i) (load i + size i - 1)

-- how far the one at k lies from the range from `first` to `last`: 1 where they adjoin, 0 where they share an address
unfoldable pub gap_to : List ℕ → List ℕ → ℕ → ℕ → ℕ → ℕ
gap_to firsts lasts first last k = cond (ltb (get_or lasts k 0) first) (first - get_or lasts k 0) (get_or firsts k 0 - last)

-- of d and the numbers below n, but for one that is left out, the first at which a value is least
unfoldable pub least_but : ℕ → (ℕ → ℕ) → ℕ → ℕ → ℕ
least_but but value d zero = d
least_but but value d (suc n) = cond (ltb (value n) (value (least_but but value d n)) && not (eqb n but)) n (least_but but value d n)

-- the one that lies nearest to a range, of all but one
unfoldable pub nearest_but : List ℕ → List ℕ → ℕ → ℕ → ℕ → ℕ
nearest_but firsts lasts first last but = least_but but (gap_to firsts lasts first last) (cond (eqb but 0) 1 0) (length firsts)

-- the one that lies nearest to the one at k
unfoldable pub beside_of : List ℕ → List ℕ → ℕ → ℕ
beside_of firsts lasts k = nearest_but firsts lasts (get_or firsts k 0) (get_or lasts k 0) k

-- how far away it lies
unfoldable pub apart_at : List ℕ → List ℕ → ℕ → ℕ
apart_at firsts lasts k = gap_to firsts lasts (get_or firsts k 0) (get_or lasts k 0) (beside_of firsts lasts k)

-- the one that has another nearest to it
unfoldable pub closest_of : List ℕ → List ℕ → ℕ
closest_of firsts lasts = least_but (length firsts) (apart_at firsts lasts) 0 (length firsts)

-- a range is near to the one at k where it lies less far away than it is long, or no farther than any two of those held are from one another
unfoldable pub is_near : List ℕ → List ℕ → ℕ → ℕ → ℕ → Bool
is_near firsts lasts first last k =
    leb (gap_to firsts lasts first last k) (last - first)
    || leb (gap_to firsts lasts first last k) (apart_at firsts lasts (closest_of firsts lasts))

-- the one at k is widened: it begins at `first` or below
unfoldable pub reached : List ℕ → ℕ → ℕ → List ℕ
reached firsts k first = set firsts k (min (get_or firsts k 0) first)

-- .. and ends at `last` or above
unfoldable pub stretched : List ℕ → ℕ → ℕ → List ℕ
stretched lasts k last = set lasts k (max (get_or lasts k 0) last)

-- the one at `one` takes in the one at `other`, whose place is given to the range from `first` to `last`
unfoldable pub firsts_joined : List ℕ → ℕ → ℕ → ℕ → List ℕ
firsts_joined firsts one other first = set (reached firsts one (get_or firsts other 0)) other first

-- .. by their last addresses
unfoldable pub lasts_joined : List ℕ → ℕ → ℕ → ℕ → List ℕ
lasts_joined lasts one other last = set (stretched lasts one (get_or lasts other 0)) other last

-- the one that lies nearest to a range
unfoldable pub nearest_to : List ℕ → List ℕ → ℕ → ℕ → ℕ
nearest_to firsts lasts first last = nearest_but firsts lasts first last (length firsts)

-- A range is taken in by the one nearest to it, where that is near; else the two that are closest become one. Which it is decides on cost alone: what
-- taking in means is `Grown`.

-- those held, with the range from `first` to `last` taken in
unfoldable pub firsts_with : List ℕ → List ℕ → ℕ → ℕ → List ℕ
firsts_with firsts lasts first last =
    cond (is_near firsts lasts first last (nearest_to firsts lasts first last))
    (reached firsts (nearest_to firsts lasts first last) first)
    (firsts_joined firsts (closest_of firsts lasts) (beside_of firsts lasts (closest_of firsts lasts)) first)

-- .. by their last addresses
unfoldable pub lasts_with : List ℕ → List ℕ → ℕ → ℕ → List ℕ
lasts_with firsts lasts first last =
    cond (is_near firsts lasts first last (nearest_to firsts lasts first last))
    (stretched lasts (nearest_to firsts lasts first last) last)
    (lasts_joined lasts (closest_of firsts lasts) (beside_of firsts lasts (closest_of firsts lasts)) last)

-- what lay within one of those held lies within one of the new ones, and so does the range from `first` to `last`
pub record Grown (firsts lasts : List ℕ) (first last : ℕ) (firsts' lasts' : List ℕ) : Type 0 where
  pub keeps : (a z : ℕ) → Within firsts lasts a z → Within firsts' lasts' a z
  pub holds : Within firsts' lasts' first last
