-- Bytes reversed in each four: as many, still bytes, given back when it is done again, and done four by four.
use Prim.Native.Nat.{ℕ, zero, suc, ◌+◌, ◌*◌, ◌-◌, ◌/◌, ◌%◌, ◌<◌, ◌≤◌}
use mathlib.Core.Path.{◌≡◌, refl, ap}
use mathlib.Core.Bool.{Bool, true, false}
use mathlib.Core.List.{List, [], ◌∷◌, ◌++◌}
use native.Mathlib.Omega.{arith}
use lib.ListN.{length, take, drop, get_or}
use Rattle.fields.specs.Number.{Bytes}
use Rattle.fields.specs.Turning.{turned, turned_place, turned_if}

pub length-turned : (xs : List ℕ) → length (turned xs) ≡ length xs
unfolding turned
length-turned [] = refl
length-turned (a ∷ []) = refl
length-turned (a ∷ b ∷ []) = refl
length-turned (a ∷ b ∷ c ∷ []) = refl
length-turned (a ∷ b ∷ c ∷ d ∷ rest) = ap (λ (n : ℕ). suc (suc (suc (suc n)))) (length-turned rest)

pub turned_again : (xs : List ℕ) → turned (turned xs) ≡ xs
unfolding turned
turned_again [] = refl
turned_again (a ∷ []) = refl
turned_again (a ∷ b ∷ []) = refl
turned_again (a ∷ b ∷ c ∷ []) = refl
turned_again (a ∷ b ∷ c ∷ d ∷ rest) = ap (λ (l : List ℕ). a ∷ b ∷ c ∷ d ∷ l) (turned_again rest)

pub bytes_turned : (xs : List ℕ) → Bytes xs → Bytes (turned xs)
unfolding turned
bytes_turned [] h = h
bytes_turned (a ∷ []) h = h
bytes_turned (a ∷ b ∷ []) h = h
bytes_turned (a ∷ b ∷ c ∷ []) h = h
bytes_turned (a ∷ b ∷ c ∷ d ∷ rest) h = (h.1.1.1.0, (h.1.1.0, (h.1.0, (h.0, bytes_turned rest h.1.1.1.1))))

-- four more
four_more : (m : ℕ) → 4 * suc m ≡ suc (suc (suc (suc (4 * m))))
four_more m = omega arith

pub take-turned : (m : ℕ) (xs : List ℕ) → take (4 * m) (turned xs) ≡ turned (take (4 * m) xs)
unfolding turned
take-turned zero [] = refl
take-turned zero (a ∷ []) = refl
take-turned zero (a ∷ b ∷ []) = refl
take-turned zero (a ∷ b ∷ c ∷ []) = refl
take-turned zero (a ∷ b ∷ c ∷ d ∷ rest) = refl
take-turned (suc m) [] = rw four_more
take-turned (suc m) (a ∷ []) = rw four_more
take-turned (suc m) (a ∷ b ∷ []) = rw four_more
take-turned (suc m) (a ∷ b ∷ c ∷ []) = rw four_more
take-turned (suc m) (a ∷ b ∷ c ∷ d ∷ rest) = rw four_more (ap (λ (l : List ℕ). d ∷ c ∷ b ∷ a ∷ l) (take-turned m rest))

pub drop-turned : (m : ℕ) (xs : List ℕ) → drop (4 * m) (turned xs) ≡ turned (drop (4 * m) xs)
unfolding turned
drop-turned zero [] = refl
drop-turned zero (a ∷ []) = refl
drop-turned zero (a ∷ b ∷ []) = refl
drop-turned zero (a ∷ b ∷ c ∷ []) = refl
drop-turned zero (a ∷ b ∷ c ∷ d ∷ rest) = refl
drop-turned (suc m) [] = rw four_more
drop-turned (suc m) (a ∷ []) = rw four_more
drop-turned (suc m) (a ∷ b ∷ []) = rw four_more
drop-turned (suc m) (a ∷ b ∷ c ∷ []) = rw four_more
drop-turned (suc m) (a ∷ b ∷ c ∷ d ∷ rest) = rw four_more (drop-turned m rest)

pub turned-append : (m : ℕ) (xs ys : List ℕ) → length xs ≡ 4 * m → turned (xs ++ ys) ≡ turned xs ++ turned ys
unfolding turned
turned-append m [] ys h = refl
turned-append m (a ∷ []) ys h = absurd (omega arith)
turned-append m (a ∷ b ∷ []) ys h = absurd (omega arith)
turned-append m (a ∷ b ∷ c ∷ []) ys h = absurd (omega arith)
turned-append zero (a ∷ b ∷ c ∷ d ∷ rest) ys h = absurd (omega arith)
turned-append (suc m) (a ∷ b ∷ c ∷ d ∷ rest) ys h = ap (λ (l : List ℕ). d ∷ c ∷ b ∷ a ∷ l) (turned-append m rest ys (omega (arith, four_more m)))

-- byte by byte
pub get_or-turned : (m : ℕ) (xs : List ℕ) (i : ℕ) → i < 4 * m → 4 * m ≤ length xs → get_or (turned xs) i 0 ≡ get_or xs (turned_place i) 0
unfolding turned turned_place
get_or-turned zero xs i h k = absurd (omega arith)
get_or-turned (suc m) [] i h k = absurd (omega arith)
get_or-turned (suc m) (a ∷ []) i h k = absurd (omega arith)
get_or-turned (suc m) (a ∷ b ∷ []) i h k = absurd (omega arith)
get_or-turned (suc m) (a ∷ b ∷ c ∷ []) i h k = absurd (omega arith)
get_or-turned (suc m) (a ∷ b ∷ c ∷ d ∷ rest) zero h k = refl
get_or-turned (suc m) (a ∷ b ∷ c ∷ d ∷ rest) (suc zero) h k = refl
get_or-turned (suc m) (a ∷ b ∷ c ∷ d ∷ rest) (suc (suc zero)) h k = refl
get_or-turned (suc m) (a ∷ b ∷ c ∷ d ∷ rest) (suc (suc (suc zero))) h k = refl
get_or-turned (suc m) (a ∷ b ∷ c ∷ d ∷ rest) (suc (suc (suc (suc i)))) h k =
    let e : suc (suc (suc (suc i))) / 4 * 4 + (3 - suc (suc (suc (suc i))) % 4) ≡ suc (suc (suc (suc (i / 4 * 4 + (3 - i % 4))))) = omega arith in
    rw e (get_or-turned m rest i (omega arith) (omega arith))

-- The same where it may be asked for or not.
module _ (xs : List ℕ) where
  pub length-turned_if : (asked : Bool) → length (turned_if asked xs) ≡ length xs
  unfolding turned_if
  length-turned_if true = length-turned xs
  length-turned_if false = refl

  pub turned_if_again : (asked : Bool) → turned_if asked (turned_if asked xs) ≡ xs
  unfolding turned_if
  turned_if_again true = turned_again xs
  turned_if_again false = refl

  pub bytes_turned_if : (asked : Bool) → Bytes xs → Bytes (turned_if asked xs)
  unfolding turned_if
  bytes_turned_if true h = bytes_turned xs h
  bytes_turned_if false h = h

module _ (m : ℕ) (xs : List ℕ) where
  pub take-turned_if : (asked : Bool) → take (4 * m) (turned_if asked xs) ≡ turned_if asked (take (4 * m) xs)
  unfolding turned_if
  take-turned_if true = take-turned m xs
  take-turned_if false = refl

  pub drop-turned_if : (asked : Bool) → drop (4 * m) (turned_if asked xs) ≡ turned_if asked (drop (4 * m) xs)
  unfolding turned_if
  drop-turned_if true = drop-turned m xs
  drop-turned_if false = refl

  pub turned_if_append : (asked : Bool) (ys : List ℕ) → length xs ≡ 4 * m → turned_if asked (xs ++ ys) ≡ turned_if asked xs ++ turned_if asked ys
  unfolding turned_if
  turned_if_append true ys h = turned-append m xs ys h
  turned_if_append false ys h = refl
