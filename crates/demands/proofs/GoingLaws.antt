-- Going through an image from place to place meets exactly its blocks, in order, and then the end flag: each stands at its place, and the next one behind it. So it is in every byte order.
use Prim.Native.Nat.{ℕ, zero, suc, ◌+◌, ◌<◌, ◌≤◌}
use mathlib.Core.Path.{◌≡◌, refl, ap, sym, ◌∙◌}
use mathlib.Core.Bool.{true, false}
use mathlib.Core.Logic.{⊎_elim}
use mathlib.Core.List.{List, [], ◌∷◌}
use native.Mathlib.Nat.{eq-or-lt_of_le}
use native.Mathlib.Numerals.{add-one}
use native.Mathlib.Omega.{arith}
use lib.ListN.{length, drop, get_or}
use lib.Dec.{eqb}
use lib.Seq.{drop-length, drop-cons}
use borrow.Author.Tests.{ne_eqb}
use Rattle.fields.specs.Number.{Bytes}
use Rattle.fields.specs.Options.{Options}
use Rattle.fields.specs.Answer.{Answer}
use Rattle.fields.specs.Rules.{done}
use Rattle.fields.specs.Program.{Source, blocks_of, no_block}
use Rattle.image.specs.Layout.{span_of, spans_of}
use Rattle.image.specs.Order.{undone}
use Rattle.image.specs.Reading.{blocks_in, read_image, reading_in}
use Rattle.image.specs.Asking.{Whereabouts, where_is, told_of, asked_of, numbers_of_asked}
use Rattle.image.specs.Standing.{standing, standing_in}
use Rattle.image.proofs.OrderLaws.{length-undone}
use Rattle.image.specs.Walking.{block_at, place_of, Framed}
use Rattle.image.proofs.AskingLaws.{asked}
use Rattle.image.proofs.WalkingLaws.{stands_at_lem, place_more}
use Rattle.image.proofs.TableLaws.{length_here}
use Rattle.demands.specs.Promises.{block_numbers, place_numbers}
use Rattle.demands.specs.Unpacking.{unpacked_asked}
use Rattle.demands.specs.Rebuilding.{figure, block_by}
use Rattle.demands.specs.Going.{next_place, Gone, going, end_flag, AskedAt}
use Rattle.demands.specs.Spared.{Passes}
use Rattle.demands.proofs.Passing.{read_passes, image_asked, image_stands}
use Rattle.demands.proofs.PlaceLaws.{stands_there, ends_there, place_within}
use Rattle.demands.proofs.PlacesIn.{stands_in}
use Rattle.demands.proofs.AskedBlocks.{was_read, blocks_are, figures_give_block}
use Rattle.demands.proofs.Unpacks.{standing_unpacks}

-- One step: the end flag ends it, a block is met.
module _ (image : List ℕ) (answers : ℕ → Answer) (place : ℕ) where
  abbrev step : ℕ → Answer → Gone
  step turns a =
      elim (eqb (figure a 0) 0) [
        | true ↦ record { met = []; last = a }
        | false ↦ let more = going turns image answers (next_place a) in record { met = block_by image a ∷ more.met; last = more.last }
      ]

  going_ends : (turns : ℕ) → answers place ≡ end_flag → going turns image answers place ≡ record { met = []; last = end_flag }
  unfolding going
  going_ends zero e = rw e
  going_ends (suc turns) e = ap (step turns) e

  going_meets : (turns : ℕ) → eqb (figure (answers place) 0) 0 ≡ false → (more : Gone) → going turns image answers (next_place (answers place)) ≡ more → going (suc turns) image answers place ≡ record { met = block_by image (answers place) ∷ more.met; last = more.last }
  unfolding going
  going_meets turns f more e = rw (f, e, going)

-- the numbers of what stands somewhere
numbers_at : (o : Options) (image : List ℕ) (place : ℕ) (w : Whereabouts) → standing_in o image place ≡ done w → place_numbers o image place ≡ record { code = 0; index = 0; figures = length w.block.bytes ∷ w.block.load ∷ w.block.run ∷ w.raw ∷ [] }
unfolding asked_of told_of numbers_of_asked
numbers_at o image place w e = rw e

-- An image that was read in the order that was told: its blocks are those after undoing.
module _ (o : Options) (image : List ℕ) (s : Source) (reads : reading_in o image ≡ done s) where
  abbrev i : List ℕ
  i = undone o.order image

  abbrev known : Passes o × (read_image i ≡ done s)
  known = read_passes o image s reads

  framed : Framed i
  framed = (was_read i s known.1).framed

  -- where a block or the end flag stands, what stands there in the order is what stands there after undoing
  standing_there : (k : ℕ) → k ≤ length (blocks_in i) → standing_in o image (place_of i k) ≡ standing i (place_of i k)
  standing_there k low = image_stands o known.0 image (place_of i k) ∙ stands_in o.order image framed k low

  -- at the place of a block stands what asking for it by its number tells
  pub placed_as_asked : (k : ℕ) → k < length (blocks_in (undone o.order image)) → place_numbers o image (place_of (undone o.order image) k) ≡ block_numbers o image k
  unfolding asked_of
  placed_as_asked k h =
      let a = was_read i s known.1 in
      ap numbers_of_asked
      (ap asked_of (standing_there k (omega arith) ∙ stands_there i framed k h)
      ∙ asked i k s.entry (length s.parts) a (omega (arith, a.count_is))
      ∙ ap asked_of (sym (image_asked o known.0 image k)))

  -- it is not empty, and the next one stands behind it
  module _ (k : ℕ) (h : k < length (blocks_in i)) where
    abbrev here : Answer
    here = place_numbers o image (place_of i k)

    told : here ≡ record { code = 0; index = 0; figures = length (block_at i k).bytes ∷ (block_at i k).load ∷ (block_at i k).run ∷ (place_of i k + 12) ∷ [] }
    unfolding where_is block_at place_of
    told = numbers_at o image (place_of i k) (where_is (blocks_in i) k) (standing_there k (omega arith) ∙ stands_there i framed k h)

    real : eqb (figure here 0) 0 ≡ false
    unfolding block_at
    real =
        let st = stands_at_lem i framed k h in
        let n : length (block_at i k).bytes ≡ _ = ap (λ b. length b.bytes) st.is ∙ length_here _ st.stands.whole in
        rw told (ne_eqb (length (block_at i k).bytes) 0 (λ e. omega (arith, st.real)))

    next : next_place here ≡ place_of i (k + 1)
    unfolding next_place span_of
    next = rw (told, place_more i k h) (omega arith)

    block : block_by i here ≡ get_or (blocks_in i) k no_block
    block =
        let e = blocks_are i s known.1 in
        rw (placed_as_asked k h, ← e) (figures_give_block o image s reads k (rw e h))

  -- Of answers that are right at the place of each block, and at that of the end flag.
  module _ (answers : ℕ → Answer) (right : (k : ℕ) → k ≤ length (blocks_in i) → answers (place_of i k) ≡ place_numbers o image (place_of i k)) where
    -- from the place of a block on, all later ones are met
    abbrev MeetsFrom : ℕ → ℕ → Type 0
    MeetsFrom turns k = going turns i answers (place_of i k) ≡ record { met = drop k (blocks_in i); last = end_flag }

    at_end : (turns : ℕ) → MeetsFrom turns (length (blocks_in i))
    at_end turns =
        let n = length (blocks_in i) in
        let flag = right n (omega arith) ∙ numbers_at o image (place_of i n) (record { block = no_block; raw = 0 }) (standing_there n (omega arith) ∙ ends_there i framed) in
        rw (drop-length (blocks_in i)) (going_ends i answers (place_of i n) turns flag)

    at_block : (turns k : ℕ) → k < length (blocks_in i) → MeetsFrom turns (k + 1) → MeetsFrom (suc turns) k
    at_block turns k l more =
        let e = right k (omega arith) in
        rw (drop-cons (blocks_in i) k no_block l, ← (block k l), ← e, ← (add-one k))
        (going_meets i answers (place_of i k) turns (rw e (real k l)) _ (rw (e, next k l) more))

    from_there : (turns k : ℕ) → k ≤ length (blocks_in i) → length (blocks_in i) ≤ turns + k → MeetsFrom turns k
    from_there zero k low enough = let e : k ≡ length (blocks_in i) = omega arith in rw e (at_end zero)
    from_there (suc turns) k low enough =
        ⊎_elim (λ e. rw e (at_end (suc turns))) (λ l. at_block turns k l (from_there turns (k + 1) (omega arith) (omega arith))) (eq-or-lt_of_le low)

    from_first : (turns : ℕ) → length (blocks_of s) ≤ turns → going turns i answers 4 ≡ record { met = blocks_of s; last = end_flag }
    unfolding place_of spans_of
    from_first turns enough =
        let e = blocks_are i s known.1 in
        rw e (from_there turns 0 (omega arith) (omega (arith, ap length e)))

  pub going_meets_blocks : (turns : ℕ) → length (blocks_of s) ≤ turns → going turns (undone o.order image) (place_numbers o image) 4 ≡ record { met = blocks_of s; last = end_flag }
  going_meets_blocks = from_first (place_numbers o image) (λ k low. refl)

  -- What C gets, of an image of bytes.
  pub calls_meet_blocks : Bytes image → (block addresses : ℕ → ℕ) → AskedAt o image block addresses → (turns : ℕ) → length (blocks_of s) ≤ turns → going turns (undone o.order image) (λ place. unpacked_asked (block place) (addresses place)) 4 ≡ record { met = blocks_of s; last = end_flag }
  calls_meet_blocks bytes block addresses calls =
      from_first (λ place. unpacked_asked (block place) (addresses place))
      (λ k low.
      let c = calls (place_of i k) (rw length-undone at (place_within i framed k low)) in
      rw (c.0, c.1) (standing_unpacks o image (place_of i k) bytes))
