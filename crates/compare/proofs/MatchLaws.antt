-- Why counting decides sameness. Blocks that lie apart have each address once, so their sizes count the addresses that receive something:
-- where each byte of the blocks cs is given as cs gives it and the sizes are equal, no address is left over.
use Prim.Native.Nat.{ℕ, ◌+◌, ◌-◌, ◌<◌, ◌≤◌}
use mathlib.Core.Path.{◌≡◌, refl, sym, ◌∙◌}
use mathlib.Core.Bool.{Bool, true, false, not, cond, ◌&&◌, ◌||◌, and-true, and-false, and-eq-true_iff}
use mathlib.Core.List.{List, [], ◌∷◌}
use native.Mathlib.Nat.{zero-add}
use native.Mathlib.Omega.{arith}
use borrow.Author.Tests.{ltb-true, ltb-false, eqb-true, eq-eqb}
use lib.ListN.{length}
use lib.Dec.{ltb, eqb}
use Rattle.fields.specs.Program.{Block, has}
use Rattle.fields.proofs.TestLaws.{neither_holds}
use Rattle.loader.specs.Placing.{sizes_of}
use Rattle.loader.specs.Addresses.{is_written, Disjoint, Within, count_below}
use Rattle.loader.proofs.AddressLaws.{on, not_both, has_range, has_in, has_out, inside_range, missed, figure_counts}
use Rattle.compare.specs.Same.{Received, given, received, alike, same_placement}
use Rattle.compare.specs.Matching.{agree, shared_with, matching, matching_of, is_matched, are_matched}
use Rattle.compare.proofs.ReceivedLaws.{received_here, received_behind, received_none, received_some}
use Rattle.compare.proofs.Decided.{alike_self, alike_same, decided}
use Rattle.compare.proofs.CountLaws.{all_at, all_each, one, count_le, count_all, count_not_any, count_full, count_either, count_same, count_squeeze}

-- Two blocks.

agreeing : Block → Block → ℕ → Bool
agreeing b c a = not (has b a) || alike (given b a) (given c a)

module _ (b c : Block) where
  -- where two blocks agree, an address of both is given alike
  pub agree_at : agree b c ≡ true → (a : ℕ) → has b a ≡ true → has c a ≡ true → given b a ≡ given c a
  unfolding agree agreeing
  agree_at h a k l =
      let q = has_range c a l in
      let e : c.load + (a - c.load) ≡ a = omega arith in
      let t : agreeing b c (c.load + (a - c.load)) ≡ true = all_at (λ i. agreeing b c (c.load + i)) (length c.bytes) (a - c.load) (omega arith) h in
      alike_same (given b a) (given c a) (rw (e, k) at t)

  pub agree_each : ((a : ℕ) → has b a ≡ true → has c a ≡ true → given b a ≡ given c a) → agree b c ≡ true
  unfolding agree agreeing
  agree_each h =
      all_each (λ i. agreeing b c (c.load + i)) (length c.bytes)
      (λ i l. go (c.load + i) (has_in c (c.load + i) (omega arith) (omega arith)))
    where
      go : (a : ℕ) → has c a ≡ true → agreeing b c a ≡ true
      go a k =
          on
          (has b a)
          (λ y. rw (h a y k, alike_self (given c a), y))
          (λ n. rw (n))

  matching_one : matching b c ≡ count_below (λ i. agree b c && has b (c.load + i)) (length c.bytes)
  unfolding matching shared_with
  matching_one = go (agree b c)
    where
      go : (t : Bool) → cond t (count_below (λ i. has b (c.load + i)) (length c.bytes)) 0 ≡ count_below (λ i. t && has b (c.load + i)) (length c.bytes)
      go true = refl
      go false = sym (count_not_any (λ i. false) (length c.bytes) (λ i l. refl))

-- Blocks that lie apart match a byte at most once.

-- the block that has the address agrees with c
unfoldable matched_at : List Block → Block → ℕ → Bool
matched_at [] c a = false
matched_at (b ∷ bs) c a = elim (has b a) [ true ↦ agree b c | false ↦ matched_at bs c a ]

module _ (b : Block) (bs : List Block) (c : Block) where
  matched_here : (a : ℕ) → has b a ≡ true → matched_at (b ∷ bs) c a ≡ agree b c
  unfolding matched_at
  matched_here a h = rw (h, matched_at)

  matched_behind : (a : ℕ) → has b a ≡ false → matched_at (b ∷ bs) c a ≡ matched_at bs c a
  unfolding matched_at
  matched_behind a h = rw (h, matched_at)

  matching_cons : matching_of (b ∷ bs) c ≡ matching b c + matching_of bs c
  unfolding matching_of
  matching_cons = refl

unwritten : (bs : List Block) (c : Block) (a : ℕ) → is_written bs a ≡ false → matched_at bs c a ≡ false
unfolding is_written
unwritten [] c a h = unfold matched_at in refl
unwritten (b ∷ bs) c a h =
    let k = neither_holds (has b a) (is_written bs a) h in
    matched_behind b bs c a k.0 ∙ unwritten bs c a k.1

matching_count : (bs : List Block) (c : Block) → Disjoint bs → matching_of bs c ≡ count_below (λ i. matched_at bs c (c.load + i)) (length c.bytes)
matching_count [] c d = unfold matching_of matched_at in sym (count_not_any (λ a. false) (length c.bytes) (λ i l. refl))
matching_count (b ∷ bs) c d =
    let rest = matching_count bs c d.1 in
    let sum = count_either (λ i. agree b c && has b (c.load + i)) (λ i. matched_at bs c (c.load + i)) (λ i. matched_at (b ∷ bs) c (c.load + i)) (length c.bytes) (λ i. once (c.load + i)) in
    omega (arith, matching_cons b bs c, matching_one b c)
  where
    once : (a : ℕ) → one (matched_at (b ∷ bs) c a) ≡ one (agree b c && has b a) + one (matched_at bs c a)
    once a =
        on
        (has b a)
        (λ y. rw (matched_here b bs c a y, unwritten bs c a (missed b a bs y d.0), y, and-true (agree b c)) (omega arith))
        (λ n. rw (matched_behind b bs c a n, n, and-false (agree b c)) (omega arith))

-- so the count stays within the size, and to stop there is exact
pub matching_le : (bs : List Block) (c : Block) → Disjoint bs → matching_of bs c ≤ length c.bytes
matching_le bs c d = rw (matching_count bs c d) (count_le (λ i. matched_at bs c (c.load + i)) (length c.bytes))

-- A block is matched just where each of its addresses receives what it gives.

matched_same : (bs : List Block) (c : Block) (a : ℕ) → matched_at bs c a ≡ true → has c a ≡ true → received bs a ≡ given c a
matched_same [] c a h k = absurd (not_both h (unfold matched_at in refl))
matched_same (b ∷ bs) c a h k =
    on
    (has b a)
    (λ y. received_here b bs a y ∙ agree_at b c (sym (matched_here b bs c a y) ∙ h) a y k)
    (λ n. received_behind b bs a n ∙ matched_same bs c a (sym (matched_behind b bs c a n) ∙ h) k)

-- what later blocks have is not given by an earlier one
behind_apart : (b : Block) (bs : List Block) → Disjoint (b ∷ bs) → (a : ℕ) → is_written bs a ≡ true → has b a ≡ false
behind_apart b bs d a h = on (has b a) (λ y. absurd (not_both h (missed b a bs y d.0))) (λ n. n)

written_behind : (b : Block) (bs : List Block) (a : ℕ) → is_written bs a ≡ true → is_written (b ∷ bs) a ≡ true
unfolding is_written
written_behind b bs a h = on (has b a) (λ y. rw y) (λ n. rw (n, h))

written_here : (b : Block) (bs : List Block) (a : ℕ) → has b a ≡ true → is_written (b ∷ bs) a ≡ true
unfolding is_written
written_here b bs a h = rw h

written_past : (b : Block) (bs : List Block) (a : ℕ) → has b a ≡ false → is_written (b ∷ bs) a ≡ true → is_written bs a ≡ true
unfolding is_written
written_past b bs a n h = rw n at h

-- an address of bs that receives from bs what another row or block gives
abbrev Gives : List Block → (ℕ → Bool) → (ℕ → Received) → Type 0
Gives bs in_reach there = (a : ℕ) → in_reach a ≡ true → received bs a ≡ there a

same_matched : (bs : List Block) (c : Block) → Disjoint bs → Gives bs (λ a. has c a && is_written bs a) (given c) → (a : ℕ) → has c a ≡ true → is_written bs a ≡ true → matched_at bs c a ≡ true
same_matched [] c d f a k l = absurd (not_both l (unfold is_written in refl))
same_matched (b ∷ bs) c d f a k l =
    on
    (has b a)
    (λ y. matched_here b bs c a y
    ∙ agree_each b c (λ i p q. sym (received_here b bs i p) ∙ f i (rw (q, written_here b bs i p))))
    (λ n. matched_behind b bs c a n
    ∙ same_matched bs c d.1 (λ i p. narrow i ((and-eq-true_iff (has c i) (is_written bs i)).0 p)) a k (written_past b bs a n l))
  where
    narrow : (i : ℕ) → (has c i ≡ true) × (is_written bs i ≡ true) → received bs i ≡ given c i
    narrow i p = sym (received_behind b bs i (behind_apart b bs d i p.1)) ∙ f i (rw (p.0, written_behind b bs i p.1))

module _ (bs : List Block) (d : Disjoint bs) where
  written_given : (c : Block) (a : ℕ) → received bs a ≡ given c a → is_written bs a ≡ true
  unfolding given
  written_given c a e =
      on
      (is_written bs a)
      (λ y. y)
      (λ n. let k = received_none bs a n in let z : ◌≡◌ {A = ℕ} 0 1 = cc in absurd (omega arith))

  pub matched_gives : (c : Block) → is_matched bs c ≡ true → Gives bs (has c) (given c)
  unfolding is_matched
  matched_gives c e a k =
      let n = length c.bytes in
      let q = has_range c a k in
      let s : c.load + (a - c.load) ≡ a = omega arith in
      let full : count_below (λ i. matched_at bs c (c.load + i)) n ≡ n = sym (matching_count bs c d) ∙ eqb-true (matching_of bs c) n e in
      let m = count_full (λ i. matched_at bs c (c.load + i)) n full (a - c.load) (omega arith) in
      matched_same bs c a (rw s at m) k

  pub gives_matched : (c : Block) → Gives bs (has c) (given c) → is_matched bs c ≡ true
  unfolding is_matched
  gives_matched c f =
      let n = length c.bytes in
      eq-eqb (matching_of bs c) n
      (matching_count bs c d
      ∙ count_all (λ i. matched_at bs c (c.load + i)) n (λ i l. go (c.load + i) (has_in c (c.load + i) (omega arith) (omega arith))))
    where
      go : (a : ℕ) → has c a ≡ true → matched_at bs c a ≡ true
      go a k =
          same_matched bs c d (λ i p. f i ((and-eq-true_iff (has c i) (is_written bs i)).0 p).0) a k (written_given c a (f a k))

  -- .. and a row of blocks where each address of the row does.
  pub all_given : (cs : List Block) → are_matched bs cs ≡ true → Gives bs (is_written cs) (received cs)
  all_given [] e a k = absurd (not_both k (unfold is_written in refl))
  all_given (c ∷ cs) e a k =
      let p = (and-eq-true_iff (is_matched bs c) (are_matched bs cs)).0 (opened e) in
      on
      (has c a)
      (λ y. matched_gives c p.0 a y ∙ sym (received_here c cs a y))
      (λ n. all_given cs p.1 a (written_past c cs a n k) ∙ sym (received_behind c cs a n))
    where
      opened : are_matched bs (c ∷ cs) ≡ true → (is_matched bs c && are_matched bs cs) ≡ true
      opened e = unfold are_matched in e

  pub given_all : (cs : List Block) → Disjoint cs → Gives bs (is_written cs) (received cs) → are_matched bs cs ≡ true
  unfolding are_matched
  given_all [] k f = refl
  given_all (c ∷ cs) k f =
      rw (
        gives_matched c (λ a l. f a (written_here c cs a l) ∙ received_here c cs a l),
        given_all cs k.1 (λ a l. f a (written_behind c cs a l) ∙ received_behind c cs a (behind_apart c cs k a l)),
      )

-- The law of the check.

-- blocks of which no two share an address, and none ends past n
pub record Spread (n : ℕ) (bs : List Block) : Type 0 where
  pub apart : Disjoint bs
  pub ended : Within 0 n bs

module _ (n : ℕ) (bs : List Block) (spread : Spread n bs) where
  sizes_count : sizes_of bs ≡ count_below (is_written bs) n
  sizes_count = simp zero-add at (figure_counts 0 n bs spread.apart spread.ended)

beyond : (n : ℕ) (bs : List Block) → Within 0 n bs → (a : ℕ) → n ≤ a → is_written bs a ≡ false
unfolding is_written
beyond n [] w a h = refl
beyond n (b ∷ bs) w a h =
    let r = inside_range 0 n b w.0 in
    rw (has_out b a (λ l k. omega arith), beyond n bs w.1 a h)

written_too : (bs cs : List Block) (a : ℕ) → received bs a ≡ received cs a → is_written bs a ≡ true → is_written cs a ≡ true
written_too bs cs a e y = on (is_written cs a) (λ z. z) (λ n. absurd (received_some bs a y (e ∙ received_none cs a n)))

same_test : (s t : Bool) → (s ≡ true → t ≡ true) → (t ≡ true → s ≡ true) → s ≡ t
same_test s t f g = on s (λ y. y ∙ sym (f y)) (λ n. on t (λ z. absurd (not_both (g z) n)) (λ m. n ∙ sym m))

module _ (n : ℕ) (bs cs : List Block) (p : Spread n bs) (q : Spread n cs) where
  written_alike : (a : ℕ) → received bs a ≡ received cs a → is_written bs a ≡ is_written cs a
  written_alike a e = same_test (is_written bs a) (is_written cs a) (written_too bs cs a e) (written_too cs bs a (sym e))

  counted_same : are_matched bs cs ≡ true → sizes_of bs ≡ sizes_of cs → (a : ℕ) → received bs a ≡ received cs a
  counted_same m e a =
      on
      (is_written cs a)
      (λ y. given a y)
      (λ k. received_none bs a (on (ltb a n) (λ l. sym (alike_below (ltb-true a n l)) ∙ k) (λ l. beyond n bs p.ended a (ltb-false a n l))) ∙ sym (received_none cs a k))
    where
      given : Gives bs (is_written cs) (received cs)
      given = all_given bs p.apart cs m

      counts : count_below (is_written cs) n ≡ count_below (is_written bs) n
      counts = sym (sizes_count n cs q) ∙ sym e ∙ sizes_count n bs p

      alike_below : a < n → is_written cs a ≡ is_written bs a
      alike_below l =
          count_squeeze (is_written cs) (is_written bs) n (λ i o y. written_alike i (given i y) ∙ y) counts a l

  same_counted : ((a : ℕ) → received bs a ≡ received cs a) → (are_matched bs cs ≡ true) × (sizes_of bs ≡ sizes_of cs)
  same_counted f = (
    given_all bs p.apart cs q.apart (λ a y. f a),
    sizes_count n bs p ∙ count_same (is_written bs) (is_written cs) n (λ a. written_alike a (f a)) ∙ sym (sizes_count n cs q),
  )

  pub same_by_count : same_placement bs cs ≡ (are_matched bs cs && eqb (sizes_of bs) (sizes_of cs))
  same_by_count =
      same_test
      (same_placement bs cs)
      (are_matched bs cs && eqb (sizes_of bs) (sizes_of cs))
      (λ h. let k = same_counted ((decided bs cs).0 h) in rw (k.0, eq-eqb (sizes_of bs) (sizes_of cs) k.1))
      (λ h. let k = (and-eq-true_iff (are_matched bs cs) (eqb (sizes_of bs) (sizes_of cs))).0 h in
      (decided bs cs).1 (counted_same k.0 (eqb-true (sizes_of bs) (sizes_of cs) k.1)))
