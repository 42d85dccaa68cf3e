use Prim.Native.Nat.{ℕ, ◌+◌, ◌<◌, ◌≤◌}
use mathlib.Core.Path.{refl, sym, ◌∙◌}
use native.Mathlib.Omega.{arith}
use lib.ListN.{length, length-drop}
use borrow.Author.Rules.{part_to_end}
use Rattle.patterns.proofs.TakingLaws.{star_takes}
use Rattle.patterns.proofs.StarsLaws.{no_later, row_inside, place_within}
use Rattle.patterns.proofs.StepLaws.{run_none, run_taken, run_left, run_star, run_short, run_differs, run_on, not_taken, here_or_never}
use Rattle.patterns.proofs.PieceLaws.{tail, none_behind, some_behind, row_within, left_nowhere, found_within, next_same, last_refused}
use Rattle.patterns.proofs.matching.+steps.Goals.{literal_step-After-stars_in_front, star_step-After-first_place-at, star_step-In-Some, star_step-After-stars_in_front}
use Rattle.patterns.proofs.matching.+steps.Goals as goal

pub literal_step-loop-i-init : goal.literal_step-loop-i-init
literal_step-loop-i-init t c = run_none _ _

-- the row has a star at least, and ends inside the pattern
row_known : (t : ℕ) (k : literal_step-After-stars_in_front t) → (0 < k.stars_in_front.result) × (k.loop-i.i + k.stars_in_front.result ≤ length k.args.p.now)
row_known t k = row_inside k.args.p.now k.loop-i.i k.stars_in_front.result (omega arith) k.if-wanted-eq42.true k.stars_in_front.ensures

pub literal_step-overflow_add-rest : goal.literal_step-overflow_add-rest
literal_step-overflow_add-rest t c = omega (arith, row_known t c)

pub literal_step-slice_bounds-star_step-count : goal.literal_step-slice_bounds-star_step-count
literal_step-slice_bounds-star_step-count t c = omega (arith, row_known t c)

pub literal_step-slice_bounds-star_step-start : goal.literal_step-slice_bounds-star_step-start
literal_step-slice_bounds-star_step-start t c = omega (arith, row_known t c)

pub literal_step-star_step-requires : goal.literal_step-star_step-requires
literal_step-star_step-requires t c =
    let row = row_known t (goal.at.literal_step-star_step-requires t c).After-stars_in_front in
    (simp (part_to_end, length-drop) (omega (arith, c.decreases)), tt)

pub literal_step-returns-then-wanted-eq42 : goal.literal_step-returns-then-wanted-eq42
literal_step-returns-then-wanted-eq42 t c =
    run_star _ _ _ c.loop-i.invariant (omega arith) c.if-wanted-eq42.true _ c.stars_in_front.ensures c.star_step.result c.star_step.ensures

pub literal_step-returns-in_default : goal.literal_step-returns-in_default
literal_step-returns-in_default t c =
    run_short _ _ _ c.loop-i.invariant (omega arith) c.if-wanted-eq42.false c.in_default.ensures.lookup.3

pub literal_step-returns-then-not-suits : goal.literal_step-returns-then-not-suits
literal_step-returns-then-not-suits t c =
    run_differs _ _ _ c.loop-i.invariant (omega arith) c.if-wanted-eq42.false c.in-Some.ensures.lookup.3.0 (rw (c.in-Some.ensures.lookup.3.1 0) at (sym c.suits.ensures ∙ c.if-not-suits.true))

pub literal_step-loop-i-preserved : goal.literal_step-loop-i-preserved
literal_step-loop-i-preserved t c =
    run_on _ _ _ c.loop-i.invariant (omega arith) c.if-wanted-eq42.false c.in-Some.ensures.lookup.3.0 (rw (c.in-Some.ensures.lookup.3.1 0) at (sym c.suits.ensures ∙ c.if-not-suits.false))

pub literal_step-returns-then-p-name : goal.literal_step-returns-then-p-name
literal_step-returns-then-p-name t c = run_left _ _ _ c.loop-i.invariant (omega arith)

pub literal_step-returns : goal.literal_step-returns
literal_step-returns t c = run_taken _ _ _ c.loop-i.invariant (omega arith)

pub star_step-loop-piece-init : goal.star_step-loop-piece-init
star_step-loop-piece-init t c = (omega arith, omega arith, refl)

-- the first place is none behind the name's end
first_known : (t : ℕ) (k : star_step-After-first_place-at t) → k.first_place-at.result ≤ length k.loop-piece.rest.now
first_known t k = rw k.first_place-at.ensures (place_within k.loop-piece.left.now (length k.loop-piece.rest.now))

pub star_step-slice_bounds-literal_step-count : goal.star_step-slice_bounds-literal_step-count
star_step-slice_bounds-literal_step-count t c = omega (arith, first_known t c)

pub star_step-slice_bounds-literal_step-start : goal.star_step-slice_bounds-literal_step-start
star_step-slice_bounds-literal_step-start t c = omega (arith, first_known t c)

pub star_step-literal_step-requires : goal.star_step-literal_step-requires
star_step-literal_step-requires t c = (simp (part_to_end, length-drop) (omega (arith, c.decreases)), tt)

pub star_step-returns-in-Taken : goal.star_step-returns-in-Taken
star_step-returns-in-Taken t c =
    sym c.loop-piece.invariant.2 ∙ star_takes _ _ c.first_place-at.result (rw part_to_end at c.in-Taken.ensures)

pub star_step-returns-in-NotHere : goal.star_step-returns-in-NotHere
star_step-returns-in-NotHere t c =
    no_later _ _ (sym c.loop-piece.invariant.2 ∙ last_refused _ _ _ _ (none_behind _ _ _ _ c.is_empty.ensures c.if-is_empty.true c.split_at.ensures.back_len) c.plain_in_front-size.ensures.1 c.first_place-at.ensures (not_taken _ _ _ (here_or_never _ c.in-NotHere.is) c.literal_step.ensures))

pub star_step-returns-in_default : goal.star_step-returns-in_default
star_step-returns-in_default t c =
    let inside = some_behind _ _ _ _ c.is_empty.ensures c.if-is_empty.false c.split_at.ensures.back_len in
    no_later _ _ (sym c.loop-piece.invariant.2 ∙ left_nowhere c.loop-piece.left.now c.loop-piece.rest.now c.plain_in_front-size.result inside (c.plain_in_front-size.ensures.2 inside) c.plain_in_front-size.ensures.1 (rw c.split_at.ensures.front at c.in_default.ensures) 0)

-- the piece ends inside the name
piece_known : (t : ℕ) (k : star_step-In-Some t) → k.in-Some.at + k.plain_in_front-size.result ≤ length k.loop-piece.rest.now
piece_known t k =
    let inside = some_behind _ _ _ _ k.is_empty.ensures k.if-is_empty.false k.split_at.ensures.back_len in
    found_within k.loop-piece.left.now k.loop-piece.rest.now k.plain_in_front-size.result inside (k.plain_in_front-size.ensures.2 inside) k.plain_in_front-size.ensures.1 k.in-Some.at (rw k.split_at.ensures.front at k.in-Some.ensures.2) k.in-Some.ensures.0

pub star_step-slice_bounds-rest-count : goal.star_step-slice_bounds-rest-count
star_step-slice_bounds-rest-count t c = piece_known t c

pub star_step-slice_bounds-rest-start : goal.star_step-slice_bounds-rest-start
star_step-slice_bounds-rest-start t c = omega (arith, piece_known t c)

-- the row behind the piece ends inside what is left of the pattern
row_behind : (t : ℕ) (k : star_step-After-stars_in_front t) → (k.stars_in_front.result ≤ length k.split_at.result.1.now) × (length (tail k.split_at.result.1.now k.stars_in_front.result) < length k.loop-piece.left.now)
row_behind t k =
    let inside = some_behind _ _ _ _ k.is_empty.ensures k.if-is_empty.false k.split_at.ensures.back_len in
    rw k.split_at.ensures.back (row_within k.loop-piece.left.now k.plain_in_front-size.result k.stars_in_front.result inside (k.plain_in_front-size.ensures.2 inside) (rw k.split_at.ensures.back at k.stars_in_front.ensures))

pub star_step-slice_bounds-left-count : goal.star_step-slice_bounds-left-count
star_step-slice_bounds-left-count t c = (row_behind t c).0

pub star_step-slice_bounds-left-start : goal.star_step-slice_bounds-left-start
star_step-slice_bounds-left-start t c = (row_behind t c).0

pub star_step-loop-piece-smaller : goal.star_step-loop-piece-smaller
star_step-loop-piece-smaller t c = (row_behind t (goal.at.star_step-loop-piece-smaller t c).After-stars_in_front).1

pub star_step-loop-piece-preserved : goal.star_step-loop-piece-preserved
star_step-loop-piece-preserved t c =
    let row = row_behind t (goal.at.star_step-loop-piece-preserved t c).After-stars_in_front in
    let inside = some_behind _ _ _ _ c.is_empty.ensures c.if-is_empty.false c.split_at.ensures.back_len in
    let same = next_same c.loop-piece.left.now c.loop-piece.rest.now c.plain_in_front-size.result inside (c.plain_in_front-size.ensures.2 inside) c.plain_in_front-size.ensures.1 c.in-Some.at (rw c.split_at.ensures.front at c.in-Some.ensures.2) (rw c.split_at.ensures.front at c.in-Some.ensures.1) c.stars_in_front.result (rw c.split_at.ensures.back at c.stars_in_front.ensures) in
    (omega arith, omega arith, rw c.split_at.ensures.back (same ∙ c.loop-piece.invariant.2))
