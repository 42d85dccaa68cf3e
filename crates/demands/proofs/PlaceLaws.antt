-- Of an image that rules 20 to 26 do not refuse: each block stands at its place, the end flag behind the last, and none of these places lies past the image.
use Prim.Native.Nat.{ℕ, zero, suc, ◌+◌, ◌<◌, ◌≤◌}
use mathlib.Core.Path.{◌≡◌, refl}
use mathlib.Core.List.{List}
use mathlib.Core.Logic.{⊎_elim}
use native.Mathlib.Nat.{eq-zero-or-pos, eq-or-lt_of_le}
use native.Mathlib.Omega.{arith}
use lib.ListN.{length, drop, length-drop}
use lib.Seq.{drop-drop, take-length}
use Rattle.fields.specs.Rules.{done, Silent}
use Rattle.fields.proofs.RuleLaws.{done_silent}
use Rattle.image.specs.Layout.{span_of, spans_of}
use Rattle.fields.specs.Program.{no_block}
use Rattle.image.specs.Reading.{size_here, after_block, table_rules, table_blocks, blocks_in, image_source}
use Rattle.image.specs.Asking.{where_is}
use Rattle.image.specs.Standing.{standing}
use Rattle.image.specs.Walking.{block_at, place_of, Framed}
use Rattle.image.proofs.LayoutLaws.{span_is}
use Rattle.image.proofs.TableLaws.{length_here, silent_block, blocks_at_end, blocks_at_block, table_length}
use Rattle.image.proofs.WalkingLaws.{stands_at_lem}
use Rattle.image.proofs.StandingLaws.{flag_stands, block_stands}

table_end : (turns k : ℕ) (rest : List ℕ) → turns + k ≡ 4097 → k ≤ 4096 → Silent (table_rules turns k rest) → size_here (drop (spans_of (table_blocks turns rest)) rest) ≡ 0
unfolding spans_of after_block
table_end zero k rest t f h = absurd (omega arith)
table_end (suc turns) k rest t f h =
    ⊎_elim
    (λ e. rw (blocks_at_end turns rest e) e)
    (λ r.
    let q = silent_block turns k rest r h in
    let n : turns + (k + 1) ≡ 4097 = omega arith in
    let d = drop-drop (spans_of (table_blocks turns (after_block rest))) (span_of (size_here rest)) rest in
    rw (blocks_at_block turns rest r, length_here rest q.0.whole, ← d) (table_end turns (k + 1) (after_block rest) n (omega (arith, q.0)) q.1))
    (eq-zero-or-pos (size_here rest))

module _ (s : List ℕ) (f : Framed s) where
  silent : Silent (table_rules 4097 0 (drop 4 s))
  silent = (done_silent (table_rules 4097 0 (drop 4 s)) (image_source s) (image_source s) f.sound).0

  pub stands_there : (k : ℕ) → k < length (blocks_in s) → standing s (place_of s k) ≡ done (where_is (blocks_in s) k)
  unfolding where_is place_of block_at
  stands_there k h =
      let st = stands_at_lem s f k h in
      let n = length-drop (place_of s k) s in
      let sp = span_is (size_here (drop (place_of s k) s)) in
      let w = st.stands.whole in
      rw (← st.is) at (block_stands s (place_of s k) f.short (omega arith) st.real (omega arith))

  -- behind the last block
  last_place : place_of s (length (blocks_in s)) ≡ 4 + spans_of (blocks_in s)
  unfolding place_of
  last_place = rw (take-length (blocks_in s))

  all_there : 8 + spans_of (blocks_in s) ≡ length s
  unfolding blocks_in
  all_there = omega (arith, f.begun, table_length 4097 0 (drop 4 s) refl (omega arith) silent, length-drop 4 s)

  pub ends_there : standing s (place_of s (length (blocks_in s))) ≡ done (record { block = no_block; raw = 0 })
  ends_there =
      let e : size_here (drop (spans_of (blocks_in s)) (drop 4 s)) ≡ 0 = unfold blocks_in in table_end 4097 0 (drop 4 s) refl (omega arith) silent in
      let d = drop-drop (spans_of (blocks_in s)) 4 s in
      flag_stands s _ f.short (omega (arith, last_place, all_there)) (rw last_place (rw d at e))

  -- none of these places lies past the image
  pub place_within : (k : ℕ) → k ≤ length (blocks_in s) → place_of s k ≤ length s
  place_within k low =
      ⊎_elim
      (λ e. rw e (omega (arith, last_place, all_there)))
      (λ l.
      let st = stands_at_lem s f k l in
      omega (arith, st.real, st.stands.whole, length-drop (place_of s k) s, span_is (size_here (drop (place_of s k) s))))
      (eq-or-lt_of_le low)
