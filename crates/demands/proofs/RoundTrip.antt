-- What was written reads back: each block stands where the reader looks for it, and no rule holds of what was written within the rules.
use Prim.Native.Nat.{ℕ, zero, suc, ◌+◌, ◌^◌, ◌<◌, ◌≤◌}
use mathlib.Core.Path.{◌≡◌, refl, ap, sym, ◌∙◌}
use mathlib.Core.Bool.{true}
use mathlib.Core.List.{List, [], ◌∷◌, ◌++◌, append_assoc, append-nil}
use native.Mathlib.Omega.{arith}
use borrow.Author.Tests.{le-ltb}
use lib.ListN.{length, drop, replicate, length-append}
use lib.Seq.{take_at, drop_at}
use Rattle.fields.specs.Counting.{joined}
use Rattle.fields.specs.Rules.{Rule, done, Silent}
use Rattle.fields.specs.Program.{Block, Program, blocks_of, program_of, meets_before}
use Rattle.fields.proofs.CountingLaws.{none_passes}
use Rattle.fields.proofs.RuleLaws.{silent_done, silent_append}
use Rattle.image.specs.Layout.{number_bytes, pad_of, rounded_up, span_of, area_of, image_of_block, image_of_blocks, image_of, spans_of, image_length}
use Rattle.image.specs.Reading.{zeros, size_here, load_here, run_here, area_here, bytes_here, padding_here, block_here, after_block, table_rules, table_blocks, entry_in, blocks_in, meeting_rules, image_rules, image_source, read_image}
use Rattle.demands.specs.Valid.{Sound, EachSound, Apart, Valid, counted}
use Rattle.image.proofs.ReadLaws.{numbered_blocks}
use Rattle.image.proofs.NumberLaws.{length-number, number_back}
use Rattle.image.proofs.AreaLaws.{length_area, area_bytes, area_padding}
use Rattle.image.proofs.LayoutLaws.{length_block, length_image}
use Rattle.image.proofs.TableLaws.{Stands, blocks_at_end, blocks_at_block, end_silent, block_silent}

zeros_replicate : (n : ℕ) → zeros (replicate n 0) ≡ true
unfolding zeros
zeros_replicate zero = refl
zeros_replicate (suc n) = zeros_replicate n

-- A block that stands at the front, field by field.
module _ (b : Block) (rest : List ℕ) (sound : Sound b) (small : length b.bytes < 2 ^ 32) where
  -- the three numbers, and what stands behind them
  abbrev size : List ℕ
  size = number_bytes (length b.bytes)

  abbrev load : List ℕ
  load = number_bytes b.load

  abbrev run : List ℕ
  run = number_bytes b.run

  abbrev behind : List ℕ
  behind = area_of b.bytes ++ rest

  size_front : size_here (image_of_block b ++ rest) ≡ length b.bytes
  unfolding size_here image_of_block
  size_front = simp append_assoc (number_back (length b.bytes) [] (load ++ (run ++ behind)) 0 refl small)

  load_front : load_here (image_of_block b ++ rest) ≡ b.load
  unfolding load_here image_of_block
  load_front = simp append_assoc (number_back b.load size (run ++ behind) 4 (length-number _) (omega arith))

  run_front : run_here (image_of_block b ++ rest) ≡ b.run
  unfolding run_here image_of_block
  run_front =
      simp append_assoc
      (rw append_assoc at (number_back b.run (size ++ load) behind 8 (simp (length-append, length-number)) (omega arith)))

  area_front : area_here (image_of_block b ++ rest) ≡ area_of b.bytes
  unfolding area_here
  area_front = rw (size_front, fields_front) (take_at (area_of b.bytes) rest (rounded_up (length b.bytes)) (length_area b.bytes))
    where
      fields_front : drop 12 (image_of_block b ++ rest) ≡ behind
      fields_front =
          let e : image_of_block b ++ rest ≡ (size ++ (load ++ run)) ++ behind = unfold image_of_block in simp append_assoc in
          rw e (drop_at (size ++ (load ++ run)) behind 12 (simp (length-append, length-number)))

  block_front : block_here (image_of_block b ++ rest) ≡ b
  unfolding block_here bytes_here
  block_front = rw (size_front, load_front, run_front, area_front, area_bytes)

  padding_front : padding_here (image_of_block b ++ rest) ≡ replicate (pad_of (length b.bytes)) 0
  unfolding padding_here
  padding_front = rw (size_front, area_front) (area_padding b.bytes)

  after_front : after_block (image_of_block b ++ rest) ≡ rest
  unfolding after_block
  after_front = rw size_front (drop_at (image_of_block b) rest (span_of (length b.bytes)) (length_block b))

  real_front : 0 < size_here (image_of_block b ++ rest)
  real_front = rw size_front sound.real

  -- no rule of it holds
  stands_front : (k : ℕ) → k < 4096 → Stands k (image_of_block b ++ rest)
  stands_front k few =
      record {
        few = few;
        whole = rw size_front (simp length-append (omega (arith, length_block b)));
        loads = rw (size_front, load_front) sound.loads;
        runs = rw (size_front, run_front) sound.runs;
        padded = rw padding_front (zeros_replicate (pad_of (length b.bytes)));
      }

-- The end flag.
flag_size : size_here (number_bytes 0) ≡ 0
unfolding size_here
flag_size = rw append-nil at (number_back 0 [] [] 0 refl (omega arith))

-- Blocks in a row, and the end flag behind them.
table_silent : (bs : List Block) (turns k : ℕ) → EachSound bs → spans_of bs < 2 ^ 32 → length bs < turns → k + length bs ≤ 4096 → Silent (table_rules turns k (image_of_blocks bs ++ number_bytes 0))
unfolding image_of_blocks spans_of span_of
table_silent [] zero k each small fuel few = absurd (omega arith)
table_silent [] (suc turns) k each small fuel few = end_silent turns k (number_bytes 0) flag_size (length-number 0)
table_silent (b ∷ bs) zero k each small fuel few = absurd (omega arith)
table_silent (b ∷ bs) (suc turns) k each small fuel few =
    let rest = image_of_blocks bs ++ number_bytes 0 in
    let n : length b.bytes < 2 ^ 32 = omega arith in
    let more = table_silent bs turns (k + 1) each.1 (omega arith) (omega arith) (omega arith) in
    rw append_assoc
    (block_silent turns k (image_of_block b ++ rest) (real_front b rest each.0 n) (stands_front b rest each.0 n k (omega arith)) (rw (after_front b rest each.0 n) more))

table_blocks_lem : (bs : List Block) (turns : ℕ) → EachSound bs → spans_of bs < 2 ^ 32 → length bs < turns → table_blocks turns (image_of_blocks bs ++ number_bytes 0) ≡ bs
unfolding image_of_blocks spans_of span_of
table_blocks_lem [] zero each small fuel = absurd (omega arith)
table_blocks_lem [] (suc turns) each small fuel = blocks_at_end turns (number_bytes 0) flag_size
table_blocks_lem (b ∷ bs) zero each small fuel = absurd (omega arith)
table_blocks_lem (b ∷ bs) (suc turns) each small fuel =
    let rest = image_of_blocks bs ++ number_bytes 0 in
    let n : length b.bytes < 2 ^ 32 = omega arith in
    rw (append_assoc, blocks_at_block turns (image_of_block b ++ rest) (real_front b rest each.0 n), block_front b rest each.0 n, after_front b rest each.0 n)
    (ap (λ (l : List Block). b ∷ l) (table_blocks_lem bs turns each.1 (omega arith) (omega arith)))

-- No two that meet.
silent_each : (g : ℕ → List Rule) (n : ℕ) → ((i : ℕ) → i < n → Silent (g i)) → Silent (joined g n)
unfolding joined
silent_each g zero h = tt
silent_each g (suc n) h = silent_append (joined g n) (g n) (silent_each g n (λ i l. h i (omega arith))) (h n (omega arith))

apart_silent : (bs : List Block) → Apart bs → Silent (joined (meeting_rules bs) (length bs))
unfolding meets_before
apart_silent bs apart = silent_each (meeting_rules bs) (length bs) (λ j l. (none_passes _ j (λ i h. apart i j h l), tt))

-- The whole image.
module _ (p : Program) (v : Valid p) where
  entry_back : entry_in (image_of p) ≡ p.entry
  unfolding entry_in image_of
  entry_back = number_back p.entry [] (image_of_blocks p.blocks ++ number_bytes 0) 0 refl v.enters

  behind_entry : drop 4 (image_of p) ≡ image_of_blocks p.blocks ++ number_bytes 0
  unfolding image_of
  behind_entry = drop_at (number_bytes p.entry) (image_of_blocks p.blocks ++ number_bytes 0) 4 (length-number p.entry)

  spans_small : spans_of p.blocks < 2 ^ 32
  unfolding image_length
  spans_small = omega (arith, v.short)

  blocks_back : blocks_in (image_of p) ≡ p.blocks
  unfolding blocks_in
  blocks_back = rw behind_entry (table_blocks_lem p.blocks 4097 v.each spans_small (omega arith))

  rules_back : Silent (image_rules (image_of p))
  unfolding image_rules image_length
  rules_back =
      let short : length (image_of p) ≤ 16777216 = omega (arith, length_image p, v.short) in
      let long : 4 ≤ length (image_of p) = omega (arith, length_image p) in
      let table = table_silent p.blocks 4097 0 v.each spans_small (omega arith) (omega arith) in
      let meeting = apart_silent p.blocks v.apart in
      rw (behind_entry, blocks_back)
      (le-ltb _ _ short, (le-ltb _ _ long, silent_append (table_rules 4097 0 (image_of_blocks p.blocks ++ number_bytes 0)) (joined (meeting_rules p.blocks) (length p.blocks)) table meeting))

-- For every program within the rules: reading its image gives it back, its blocks counted from 0 ..
pub written_reads_back : (p : Program) → Valid p → read_image (image_of p) ≡ done (counted p)
unfolding read_image image_source counted
written_reads_back p v =
    rw (silent_done (image_rules (image_of p)) (image_source (image_of p)) (rules_back p v), entry_back p v, blocks_back p v)

-- .. and that is the program itself ..
pub program_counted : (p : Program) → program_of (counted p) ≡ p
unfolding program_of blocks_of counted
program_counted p = rw numbered_blocks

-- .. so that programs with one image are one program.
pub image_tells : (p q : Program) → Valid p → Valid q → image_of p ≡ image_of q → p ≡ q
image_tells p q v w e =
    let same : counted p ≡ counted q = cc (written_reads_back p v, written_reads_back q w) in
    sym (program_counted p) ∙ ap program_of same ∙ program_counted q
