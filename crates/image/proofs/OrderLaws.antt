-- Rewriting an image's numbers and data areas by an order: it stays as long and made of bytes, and what was rewritten is rewritten back. Stated once, over the order.
use Prim.Native.Nat.{ℕ, zero, suc, ◌+◌, ◌*◌, ◌<◌, ◌≤◌}
use mathlib.Core.Path.{◌≡◌, refl, ap, sym, ◌∙◌}
use mathlib.Core.Bool.{Bool, true, false}
use mathlib.Core.List.{List, [], ◌∷◌, ◌++◌, append-nil}
use mathlib.Core.Logic.{⊎_elim}
use native.Mathlib.Nat.{eq-zero-or-pos}
use native.Mathlib.Omega.{arith}
use lib.ListN.{length, take, drop, length-append, length-drop, take-append-drop, drop_of_length-le}
use lib.Seq.{drop-drop, take-take, take_all, take_at, drop_at, length-take-le}
use lib.Dec.{leb}
use borrow.Author.Tests.{eq-eqb, ne_eqb, leb-true, leb-false}
use Rattle.fields.specs.Number.{number, field_at, Bytes}
use Rattle.fields.specs.Turning.{turned, turned_if}
use Rattle.fields.proofs.NumberLaws.{bytes_take, bytes_drop}
use Rattle.fields.proofs.PieceLaws.{drop-take}
use Rattle.fields.proofs.TurningLaws.{length-turned_if, turned_if_again, bytes_turned_if, turned_if_append, take-turned_if, drop-turned_if}
use Rattle.image.specs.Layout.{rounded_up, span_of}
use Rattle.image.specs.Order.{turns_numbers, turns_data, numbers_in, area_in, number_in, rewritten, undone, written, undone_from}

-- One row of numbers, or one data area.
module _ (order : ℕ) (xs : List ℕ) where
  pub length_numbers : length (numbers_in order xs) ≡ length xs
  unfolding numbers_in
  length_numbers = length-turned_if xs (turns_numbers order)

  pub length_area_in : length (area_in order xs) ≡ length xs
  unfolding area_in
  length_area_in = length-turned_if xs (turns_data order)

  pub numbers_again : numbers_in order (numbers_in order xs) ≡ xs
  unfolding numbers_in
  numbers_again = turned_if_again xs (turns_numbers order)

  pub area_again : area_in order (area_in order xs) ≡ xs
  unfolding area_in
  area_again = turned_if_again xs (turns_data order)

  pub bytes_numbers : Bytes xs → Bytes (numbers_in order xs)
  unfolding numbers_in
  bytes_numbers h = bytes_turned_if xs (turns_numbers order) h

  pub bytes_area_in : Bytes xs → Bytes (area_in order xs)
  unfolding area_in
  bytes_area_in h = bytes_turned_if xs (turns_data order) h

  -- a data area is reversed, or stays
  pub area_turns : turns_data order ≡ true → turned xs ≡ area_in order xs
  unfolding area_in turned_if
  area_turns h = rw h

  pub area_stays : turns_data order ≡ false → xs ≡ area_in order xs
  unfolding area_in turned_if
  area_stays h = rw h

  -- numbers one behind the other
  pub numbers_append : (m : ℕ) (ys : List ℕ) → length xs ≡ 4 * m → numbers_in order (xs ++ ys) ≡ numbers_in order xs ++ numbers_in order ys
  unfolding numbers_in
  numbers_append m ys h = turned_if_append m xs (turns_numbers order) ys h

-- order 0 changes nothing
pub numbers_plain : (xs : List ℕ) → numbers_in 0 xs ≡ xs
unfolding numbers_in turns_numbers turned_if
numbers_plain xs = refl

pub area_plain : (xs : List ℕ) → area_in 0 xs ≡ xs
unfolding area_in turns_data turned_if
area_plain xs = refl

-- A number of a row, by its place.
module _ (order : ℕ) (xs : List ℕ) where
  pub field_in : (k n : ℕ) → 4 * k + 4 ≤ n → field_at 4 (numbers_in order (take n xs)) (4 * k) ≡ numbers_in order (field_at 4 xs (4 * k))
  unfolding field_at numbers_in
  field_in k n h =
      let t = turns_numbers order in
      let a : take 4 (drop (4 * k) (turned_if t (take n xs))) ≡ turned_if t (take 4 (drop (4 * k) (take n xs))) = rw (drop-turned_if k (take n xs) t) (take-turned_if 1 (drop (4 * k) (take n xs)) t) in
      a ∙ ap (turned_if t) (front h)
    where
      front : 4 * k + 4 ≤ n → take 4 (drop (4 * k) (take n xs)) ≡ take 4 (drop (4 * k) xs)
      front h = rw (← (drop-take (4 * k) 4 (take n xs)), take-take (4 * k + 4) n xs h) (drop-take (4 * k) 4 xs)

-- Four bytes that spell 0 do so in every order.
zero_turned : (xs : List ℕ) → length xs ≤ 4 → number xs ≡ 0 → number (turned xs) ≡ 0
unfolding turned number
zero_turned [] h e = e
zero_turned (a ∷ []) h e = e
zero_turned (a ∷ b ∷ []) h e = e
zero_turned (a ∷ b ∷ c ∷ []) h e = e
zero_turned (a ∷ b ∷ c ∷ d ∷ []) h e = omega arith
zero_turned (a ∷ b ∷ c ∷ d ∷ x ∷ xs) h e = absurd (omega arith)

zero_turned_if : (asked : Bool) (xs : List ℕ) → length xs ≤ 4 → number xs ≡ 0 → number (turned_if asked xs) ≡ 0
unfolding turned_if
zero_turned_if true xs h e = zero_turned xs h e
zero_turned_if false xs h e = e

pub zero_in : (order from : ℕ) (s : List ℕ) (at : ℕ) → number_in from s at ≡ 0 → number_in order s at ≡ 0
unfolding number_in numbers_in field_at
zero_in order from s at e =
    let xs = take 4 (drop at s) in
    let few : length xs ≤ 4 = few_taken (drop at s) in
    let l : length (turned_if (turns_numbers from) xs) ≤ 4 = omega (arith, length-turned_if xs (turns_numbers from)) in
    let z : number xs ≡ 0 = rw (turned_if_again xs (turns_numbers from)) at (zero_turned_if (turns_numbers from) (turned_if (turns_numbers from) xs) l e) in
    zero_turned_if (turns_numbers order) xs few z
  where
    few_taken : (ys : List ℕ) → length (take 4 ys) ≤ 4
    few_taken [] = omega arith
    few_taken (a ∷ []) = omega arith
    few_taken (a ∷ b ∷ []) = omega arith
    few_taken (a ∷ b ∷ c ∷ []) = omega arith
    few_taken (a ∷ b ∷ c ∷ d ∷ ys) = omega arith

-- A list cut at n, with both parts replaced by others of their lengths, is cut there into these.
module _ (n : ℕ) (xs ys rest : List ℕ) (h : length xs ≡ length (take n rest)) (k : length ys ≡ length (drop n rest)) where
  none : (zs : List ℕ) → length zs ≡ 0 → zs ≡ []
  none [] e = refl
  none (z ∷ zs) e = absurd (omega arith)

  pub parted : (take n (xs ++ ys) ≡ xs) × (drop n (xs ++ ys) ≡ ys)
  parted = go (leb n (length rest)) refl
    where
      go : (t : Bool) → leb n (length rest) ≡ t → (take n (xs ++ ys) ≡ xs) × (drop n (xs ++ ys) ≡ ys)
      go true e =
          let le = leb-true n (length rest) e in
          let l : length xs ≡ n = h ∙ length-take-le n rest le in
          (take_at xs ys n l, drop_at xs ys n l)
      go false e =
          let gt = leb-false n (length rest) e in
          let l : length ys ≡ 0 = omega (arith, length-drop n rest) in
          let m : length xs ≡ length rest = h ∙ ap length (take_all n rest (omega arith)) in
          rw (none ys l, append-nil) (take_all n xs (omega arith), drop_of_length-le xs {i = n} (omega arith))

-- The table, step by step.
module _ (from order turns : ℕ) (rest : List ℕ) where
  abbrev size : ℕ
  size = number_in from rest 0

  pub rewritten_end : number_in from rest 0 ≡ 0 → rewritten from order (suc turns) rest ≡ rest
  unfolding rewritten
  rewritten_end e = rw (eq-eqb _ _ e, rewritten)

  pub rewritten_block : 0 < number_in from rest 0 → rewritten from order (suc turns) rest ≡ numbers_in order (take 12 rest) ++ (area_in order (take (rounded_up size) (drop 12 rest)) ++ rewritten from order turns (drop (span_of size) rest))
  unfolding rewritten
  rewritten_block h = let n : number_in from rest 0 ≡ 0 → ⊥ = λ e. omega arith in rw (ne_eqb _ _ n, rewritten)

pub length_rewritten : (from order turns : ℕ) (rest : List ℕ) → length (rewritten from order turns rest) ≡ length rest
unfolding rewritten
length_rewritten from order zero rest = refl
length_rewritten from order (suc turns) rest =
    ⊎_elim
    (λ e. ap length (rewritten_end from order turns rest e))
    (λ h.
    let z = number_in from rest 0 in
    let more = length_rewritten from order turns (drop (span_of z) rest) in
    let parts : length (take 12 rest) + (length (take (rounded_up z) (drop 12 rest)) + length (drop (span_of z) rest)) ≡ length rest = unfold span_of in cut rest (rounded_up z) in
    ap length (rewritten_block from order turns rest h) ∙ simp (length-append, length_numbers, length_area_in) (omega (arith, more, parts)))
    (eq-zero-or-pos (number_in from rest 0))
  where
    cut : (rest : List ℕ) (r : ℕ) → length (take 12 rest) + (length (take r (drop 12 rest)) + length (drop (12 + r) rest)) ≡ length rest
    cut rest r =
        let e = ap length (take-append-drop 12 rest) in
        let f = ap length (take-append-drop r (drop 12 rest)) in
        omega (arith, rw length-append at e, rw (length-append, drop-drop) at f)

-- Where a block begins, the three parts of what is rewritten are the parts rewritten.
module _ (from order turns : ℕ) (rest : List ℕ) (h : 0 < number_in from rest 0) where
  abbrev area : ℕ
  area = rounded_up (number_in from rest 0)

  abbrev done : List ℕ
  done = rewritten from order (suc turns) rest

  abbrev more : List ℕ
  more = rewritten from order turns (drop (span_of (number_in from rest 0)) rest)

  length_behind : length (area_in order (take area (drop 12 rest)) ++ more) ≡ length (drop 12 rest)
  unfolding span_of
  length_behind =
      let e = ap length (take-append-drop area (drop 12 rest)) in
      rw (length-append, length_area_in, length_rewritten from order turns (drop (span_of (number_in from rest 0)) rest), ← (drop-drop area 12 rest)) (rw length-append at e)

  fields_parted : (take 12 done ≡ numbers_in order (take 12 rest)) × (drop 12 done ≡ area_in order (take area (drop 12 rest)) ++ more)
  fields_parted =
      rw (rewritten_block from order turns rest h)
      (parted 12 (numbers_in order (take 12 rest)) (area_in order (take area (drop 12 rest)) ++ more) rest (length_numbers order (take 12 rest)) length_behind)

  area_parted : (take area (drop 12 done) ≡ area_in order (take area (drop 12 rest))) × (drop area (drop 12 done) ≡ more)
  unfolding span_of
  area_parted =
      rw fields_parted.1
      (parted area (area_in order (take area (drop 12 rest))) more (drop 12 rest) (length_area_in order (take area (drop 12 rest)))
      (length_rewritten from order turns (drop (span_of (number_in from rest 0)) rest) ∙ ap length (sym (drop-drop area 12 rest))))

  pub rewritten_area : take area (drop 12 done) ≡ area_in order (take area (drop 12 rest))
  rewritten_area = area_parted.0

  pub rewritten_after : drop (span_of (number_in from rest 0)) done ≡ more
  unfolding span_of
  rewritten_after = sym (drop-drop area 12 done) ∙ area_parted.1

  pub rewritten_field : (k : ℕ) → 4 * k + 4 ≤ 12 → field_at 4 done (4 * k) ≡ numbers_in order (field_at 4 rest (4 * k))
  rewritten_field k l = sym (in_front_lem k l) ∙ ap (λ (xs : List ℕ). field_at 4 xs (4 * k)) fields_parted.0 ∙ field_in order rest k 12 l
    where
      in_front_lem : (k : ℕ) → 4 * k + 4 ≤ 12 → field_at 4 (take 12 done) (4 * k) ≡ field_at 4 done (4 * k)
      in_front_lem k l = unfold field_at in rw (← (drop-take (4 * k) 4 (take 12 done)), take-take (4 * k + 4) 12 done l) (drop-take (4 * k) 4 done)

-- What was rewritten is rewritten back where sizes are read in the order in which they then stand.
again : (order a b : ℕ) → ((xs : List ℕ) → numbers_in b (numbers_in order xs) ≡ numbers_in a xs) → (turns : ℕ) (rest : List ℕ) → rewritten b order turns (rewritten a order turns rest) ≡ rest
again order a b back zero rest = unfold rewritten in refl
again order a b back (suc turns) rest =
    ⊎_elim
    (λ e. ap (rewritten b order (suc turns)) (rewritten_end a order turns rest e) ∙ rewritten_end b order turns rest (zero_in b a rest 0 e))
    (λ h. one h (λ l. again order a b back turns l))
    (eq-zero-or-pos (number_in a rest 0))
  where
    one : 0 < number_in a rest 0 → ((l : List ℕ) → rewritten b order turns (rewritten a order turns l) ≡ l) → rewritten b order (suc turns) (rewritten a order (suc turns) rest) ≡ rest
    one h hyp =
        let w = rewritten a order (suc turns) rest in
        let z = number_in a rest 0 in
        let size : number_in b w 0 ≡ z = unfold number_in in ap number (ap (numbers_in b) (rewritten_field a order turns rest h 0 (omega arith)) ∙ back (field_at 4 rest 0)) in
        let front : numbers_in order (take 12 w) ≡ take 12 rest = ap (numbers_in order) (fields_parted a order turns rest h).0 ∙ numbers_again order (take 12 rest) in
        let area : area_in order (take (rounded_up z) (drop 12 w)) ≡ take (rounded_up z) (drop 12 rest) = ap (area_in order) (rewritten_area a order turns rest h) ∙ area_again order (take (rounded_up z) (drop 12 rest)) in
        let behind : rewritten b order turns (drop (span_of z) w) ≡ drop (span_of z) rest = ap (rewritten b order turns) (rewritten_after a order turns rest h) ∙ hyp (drop (span_of z) rest) in
        rewritten_block b order turns w (rw size h) ∙ rw (size, front, area, behind) (unfold span_of in rw (← (drop-drop (rounded_up z) 12 rest), take-append-drop (rounded_up z) (drop 12 rest)) (take-append-drop 12 rest))

-- The whole image.
module _ (order a b : ℕ) (s : List ℕ) where
  abbrev whole : List ℕ
  whole = numbers_in order (take 4 s) ++ rewritten a order 4097 (drop 4 s)

  whole_parted : (take 4 whole ≡ numbers_in order (take 4 s)) × (drop 4 whole ≡ rewritten a order 4097 (drop 4 s))
  whole_parted = parted 4 (numbers_in order (take 4 s)) (rewritten a order 4097 (drop 4 s)) s (length_numbers order (take 4 s)) (length_rewritten a order 4097 (drop 4 s))

  length_whole : length whole ≡ length s
  length_whole =
      let e = ap length (take-append-drop 4 s) in
      rw (length-append, length_numbers, length_rewritten a order 4097 (drop 4 s)) (rw length-append at e)

  whole_again : ((xs : List ℕ) → numbers_in b (numbers_in order xs) ≡ numbers_in a xs) → numbers_in order (take 4 whole) ++ rewritten b order 4097 (drop 4 whole) ≡ s
  whole_again back =
      rw (whole_parted.0, whole_parted.1, numbers_again order (take 4 s), again order a b back 4097 (drop 4 s)) (take-append-drop 4 s)

module _ (order : ℕ) (s : List ℕ) where
  pub length-undone : length (undone order s) ≡ length s
  unfolding undone
  length-undone = length_whole order order order s

  pub length_written : length (written order s) ≡ length s
  unfolding written
  length_written = length_whole order 0 order s

  -- writing in an order and undoing it gives back what was written ..
  pub undone_written : undone order (written order s) ≡ s
  unfolding undone written
  undone_written = whole_again order 0 order s (λ xs. numbers_again order xs ∙ sym (numbers_plain xs))

  -- .. and undoing and writing again the bytes that were undone
  pub written_undone : written order (undone order s) ≡ s
  unfolding undone written
  written_undone = whole_again order order 0 s (λ xs. numbers_plain (numbers_in order xs))

  -- what is undone begins with the entry point, and behind it stand the blocks
  pub undone_entry : take 4 (undone order s) ≡ numbers_in order (take 4 s)
  unfolding undone
  undone_entry = (whole_parted order order order s).0

  pub undone_behind : drop 4 (undone order s) ≡ rewritten order order 4097 (drop 4 s)
  unfolding undone
  undone_behind = (whole_parted order order order s).1

-- the same of what is undone from a place on
module _ (order place : ℕ) (s : List ℕ) where
  pub length-undone_from : length (undone_from order place s) ≡ length s
  unfolding undone_from
  length-undone_from =
      let e = ap length (take-append-drop place s) in
      rw (length-append, length_rewritten order order 4097 (drop place s)) (rw length-append at e)

  pub undone_from_behind : drop place (undone_from order place s) ≡ rewritten order order 4097 (drop place s)
  unfolding undone_from
  undone_from_behind = (parted place (take place s) (rewritten order order 4097 (drop place s)) s refl (length_rewritten order order 4097 (drop place s))).1

-- order 0 changes nothing
rewritten_plain : (turns : ℕ) (rest : List ℕ) → rewritten 0 0 turns rest ≡ rest
rewritten_plain zero rest = unfold rewritten in refl
rewritten_plain (suc turns) rest =
    ⊎_elim
    (λ e. rewritten_end 0 0 turns rest e)
    (λ h.
    let z = number_in 0 rest 0 in
    rewritten_block 0 0 turns rest h ∙ rw (rewritten_plain turns (drop (span_of z) rest), numbers_plain, area_plain) (unfold span_of in rw (← (drop-drop (rounded_up z) 12 rest), take-append-drop (rounded_up z) (drop 12 rest)) (take-append-drop 12 rest)))
    (eq-zero-or-pos (number_in 0 rest 0))

module _ (s : List ℕ) where
  pub undone_plain : undone 0 s ≡ s
  unfolding undone
  undone_plain = rw (numbers_plain, rewritten_plain) (take-append-drop 4 s)

  pub written_plain : written 0 s ≡ s
  unfolding written
  written_plain = rw (numbers_plain, rewritten_plain) (take-append-drop 4 s)

  pub undone_from_plain : (place : ℕ) → undone_from 0 place s ≡ s
  unfolding undone_from
  undone_from_plain place = rw rewritten_plain (take-append-drop place s)

-- bytes stay bytes
bytes_append : (xs ys : List ℕ) → Bytes xs → Bytes ys → Bytes (xs ++ ys)
bytes_append [] ys h k = k
bytes_append (x ∷ xs) ys h k = (h.0, bytes_append xs ys h.1 k)

bytes_rewritten : (from order turns : ℕ) (rest : List ℕ) → Bytes rest → Bytes (rewritten from order turns rest)
bytes_rewritten from order zero rest b = unfold rewritten in b
bytes_rewritten from order (suc turns) rest b =
    ⊎_elim
    (λ e. rw (rewritten_end from order turns rest e) b)
    (λ h.
    let z = number_in from rest 0 in
    rw (rewritten_block from order turns rest h)
    (bytes_append (numbers_in order (take 12 rest)) _ (bytes_numbers order (take 12 rest) (bytes_take 12 rest b))
    (bytes_append (area_in order (take (rounded_up z) (drop 12 rest))) _ (bytes_area_in order (take (rounded_up z) (drop 12 rest)) (bytes_take (rounded_up z) (drop 12 rest) (bytes_drop 12 rest b)))
    (bytes_rewritten from order turns (drop (span_of z) rest) (bytes_drop (span_of z) rest b)))))
    (eq-zero-or-pos (number_in from rest 0))

pub bytes_undone : (order : ℕ) (s : List ℕ) → Bytes s → Bytes (undone order s)
unfolding undone
bytes_undone order s b =
    bytes_append (numbers_in order (take 4 s)) _ (bytes_numbers order (take 4 s) (bytes_take 4 s b)) (bytes_rewritten order order 4097 (drop 4 s) (bytes_drop 4 s b))

pub bytes_written : (order : ℕ) (s : List ℕ) → Bytes s → Bytes (written order s)
unfolding written
bytes_written order s b =
    bytes_append (numbers_in order (take 4 s)) _ (bytes_numbers order (take 4 s) (bytes_take 4 s b)) (bytes_rewritten 0 order 4097 (drop 4 s) (bytes_drop 4 s b))

pub bytes_undone_from : (order place : ℕ) (s : List ℕ) → Bytes s → Bytes (undone_from order place s)
unfolding undone_from
bytes_undone_from order place s b =
    bytes_append (take place s) _ (bytes_take place s b) (bytes_rewritten order order 4097 (drop place s) (bytes_drop place s b))
