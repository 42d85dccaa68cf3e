-- The table of blocks, step by step: what it says at the end flag and at a block, and what holds where no rule of it does.
use Prim.Native.Nat.{ℕ, zero, suc, ◌+◌, ◌^◌, ◌<◌, ◌≤◌}
use mathlib.Core.Path.{◌≡◌, refl, ap, sym}
use mathlib.Core.Bool.{true, false}
use mathlib.Core.List.{List, [], ◌∷◌, ◌++◌}
use mathlib.Core.Logic.{⊎_elim}
use native.Mathlib.Nat.{eq-zero-or-pos, add-zero}
use native.Mathlib.Omega.{arith}
use lib.ListN.{length, take, drop, get_or, length-drop}
use lib.Seq.{drop-drop}
use lib.Dec.{ltb, eqb}
use borrow.Author.Tests.{leb-false, ltb-false, eq-eqb, ne_eqb, lt-leb, le-ltb, not-false}
use Rattle.fields.specs.Rules.{rule, Silent}
use Rattle.fields.specs.Program.{Block, no_block}
use Rattle.fields.proofs.RuleLaws.{silent_append, silent_split}
use Rattle.image.specs.Layout.{span_of, spans_of}
use Rattle.image.specs.Reading.{zeros, size_here, load_here, run_here, padding_here, block_here, after_block, block_rules, end_rules, table_rules, table_blocks}
use Rattle.image.proofs.AreaLaws.{length_bytes}
use Rattle.image.proofs.LayoutLaws.{span_is}

-- One block. Here and below `rest` is what stands from a block, or from the end flag, on.

-- what holds of a block with k whole blocks before it, where no rule of it does
pub record Stands (k : ℕ) (rest : List ℕ) : Type 0 where
  pub few : k < 4096
  pub whole : span_of (size_here rest) ≤ length rest
  pub loads : load_here rest + size_here rest ≤ 2 ^ 32
  pub runs : run_here rest + size_here rest ≤ 2 ^ 32
  pub padded : zeros (padding_here rest) ≡ true

pub stands : (k : ℕ) (rest : List ℕ) → Silent (block_rules k rest) → Stands k rest
stands k rest h =
    record {
      few = leb-false 4096 k h.0;
      whole = ltb-false (length rest) (span_of (size_here rest)) h.1.0;
      loads = ltb-false (2 ^ 32) (load_here rest + size_here rest) h.1.1.0;
      runs = ltb-false (2 ^ 32) (run_here rest + size_here rest) h.1.1.1.0;
      padded = not-false (zeros (padding_here rest)) h.1.1.1.1.0;
    }

pub stands_silent : (k : ℕ) (rest : List ℕ) → Stands k rest → Silent (block_rules k rest)
stands_silent k rest h =
    (lt-leb _ _ h.few, (le-ltb _ _ h.whole, (le-ltb _ _ h.loads, (le-ltb _ _ h.runs, (rw h.padded, tt)))))

-- a whole block has as many bytes as its size field says
pub length_here : (rest : List ℕ) → span_of (size_here rest) ≤ length rest → length (block_here rest).bytes ≡ size_here rest
unfolding block_here
length_here rest h = length_bytes rest h

-- One step of the table.

not_flag : (n : ℕ) → 0 < n → eqb n 0 ≡ false
not_flag n h = ne_eqb n 0 (omega arith)

module _ (turns k : ℕ) (rest : List ℕ) where
  pub rules_at_end : size_here rest ≡ 0 → table_rules (suc turns) k rest ≡ rule (ltb (length rest) 4) 21 k ∷ end_rules k rest
  unfolding table_rules
  rules_at_end e = rw (eq-eqb _ _ e)

  pub rules_at_block : 0 < size_here rest → table_rules (suc turns) k rest ≡ rule (ltb (length rest) 4) 21 k ∷ (block_rules k rest ++ table_rules turns (k + 1) (after_block rest))
  unfolding table_rules
  rules_at_block h = rw (not_flag _ h)

  -- where the end flag passes its rules, nothing follows it
  pub silent_end : size_here rest ≡ 0 → Silent (table_rules (suc turns) k rest) → length rest ≡ 4
  silent_end e h =
      let q = rw (rules_at_end e) at h in
      omega (arith, ltb-false (length rest) 4 q.0, ltb-false 4 (length rest) q.1.0)

  pub silent_block : 0 < size_here rest → Silent (table_rules (suc turns) k rest) → Stands k rest × Silent (table_rules turns (k + 1) (after_block rest))
  silent_block r h =
      let q = silent_split (block_rules k rest) (table_rules turns (k + 1) (after_block rest)) (rw (rules_at_block r) at h).1 in
      (stands k rest q.0, q.1)

  -- and the other way round
  pub end_silent : size_here rest ≡ 0 → length rest ≡ 4 → Silent (table_rules (suc turns) k rest)
  end_silent e n = rw (rules_at_end e) (le-ltb (length rest) 4 (omega arith), (le-ltb 4 (length rest) (omega arith), tt))

  pub block_silent : 0 < size_here rest → Stands k rest → Silent (table_rules turns (k + 1) (after_block rest)) → Silent (table_rules (suc turns) k rest)
  block_silent r st h =
      let w : 4 ≤ length rest = omega (arith, span_is (size_here rest)) in
      let more = table_rules turns (k + 1) (after_block rest) in
      rw (rules_at_block r) (le-ltb (length rest) 4 w, silent_append (block_rules k rest) more (stands_silent k rest st) h)

module _ (turns : ℕ) (rest : List ℕ) where
  pub blocks_at_end : size_here rest ≡ 0 → table_blocks (suc turns) rest ≡ []
  unfolding table_blocks
  blocks_at_end e = rw (eq-eqb _ _ e, table_blocks)

  pub blocks_at_block : 0 < size_here rest → table_blocks (suc turns) rest ≡ block_here rest ∷ table_blocks turns (after_block rest)
  unfolding table_blocks
  blocks_at_block h = rw (not_flag _ h, table_blocks)

-- All blocks.

-- a block of the table stands behind the room of those before it
pub record StandsAs (k : ℕ) (rest : List ℕ) (b : Block) : Type 0 where
  pub real : 0 < size_here rest
  pub stands : Stands k rest
  pub is : b ≡ block_here rest

pub block_in_lem : (turns k : ℕ) (rest : List ℕ) → Silent (table_rules turns k rest) → (i : ℕ) → i < length (table_blocks turns rest) → StandsAs (k + i) (drop (spans_of (take i (table_blocks turns rest))) rest) (get_or (table_blocks turns rest) i no_block)
unfolding table_blocks spans_of after_block
block_in_lem zero k rest h i l = absurd (omega arith)
block_in_lem (suc turns) k rest h i l =
    ⊎_elim
    (λ e. absurd (omega (arith, ap length (blocks_at_end turns rest e))))
    (λ r.
    let b = blocks_at_block turns rest r in
    let q = silent_block turns k rest r h in
    rw b (go r q.0 i (rw b at l) (λ j m. block_in_lem turns (k + 1) (after_block rest) q.1 j m)))
    (eq-zero-or-pos (size_here rest))
  where
    more : List Block
    more = table_blocks turns (after_block rest)

    go : 0 < size_here rest → Stands k rest → (i : ℕ) → i < suc (length more) → ((j : ℕ) → j < length more → StandsAs (k + 1 + j) (drop (spans_of (take j more)) (after_block rest)) (get_or more j no_block)) → StandsAs (k + i) (drop (spans_of (take i (block_here rest ∷ more))) rest) (get_or (block_here rest ∷ more) i no_block)
    go r st zero m ih = rw add-zero (record { real = r; stands = st; is = refl })
    go r st (suc j) m ih =
        let e : k + suc j ≡ k + 1 + j = omega arith in
        let d : drop (spans_of (take j more)) (after_block rest) ≡ drop (span_of (size_here rest) + spans_of (take j more)) rest = drop-drop (spans_of (take j more)) (span_of (size_here rest)) rest in
        rw (e, length_here rest st.whole, ← d) (ih j (omega arith))

-- there are at most 4,096 of them
pub table_few : (turns k : ℕ) (rest : List ℕ) → k ≤ 4096 → Silent (table_rules turns k rest) → k + length (table_blocks turns rest) ≤ 4096
unfolding table_blocks
table_few zero k rest f h = omega arith
table_few (suc turns) k rest f h =
    ⊎_elim
    (λ e. omega (arith, ap length (blocks_at_end turns rest e)))
    (λ r.
    let q = silent_block turns k rest r h in
    omega (arith, ap length (blocks_at_block turns rest r), table_few turns (k + 1) (after_block rest) (omega (arith, q.0)) q.1))
    (eq-zero-or-pos (size_here rest))

-- the blocks and the end flag are all that there is
pub table_length : (turns k : ℕ) (rest : List ℕ) → turns + k ≡ 4097 → k ≤ 4096 → Silent (table_rules turns k rest) → 4 + spans_of (table_blocks turns rest) ≡ length rest
unfolding spans_of after_block
table_length zero k rest t f h = absurd (omega arith)
table_length (suc turns) k rest t f h =
    ⊎_elim
    (λ e. rw (blocks_at_end turns rest e) (sym (silent_end turns k rest e h)))
    (λ r.
    let q = silent_block turns k rest r h in
    let n : turns + (k + 1) ≡ 4097 = omega arith in
    let w : span_of (size_here rest) ≤ length rest = q.0.whole in
    rw (blocks_at_block turns rest r, length_here rest w) (omega (arith, table_length turns (k + 1) (after_block rest) n (omega (arith, q.0)) q.1, length-drop (span_of (size_here rest)) rest)))
    (eq-zero-or-pos (size_here rest))
