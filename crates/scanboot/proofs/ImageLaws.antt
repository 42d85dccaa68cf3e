-- What the image reader hands on is bounded, since no block reaches past the image and rule 22 counts them.
use Prim.Native.Nat.{ℕ, zero, suc, ◌+◌, ◌-◌, ◌^◌, ◌<◌, ◌≤◌}
use mathlib.Core.Path.{◌≡◌, refl}
use mathlib.Core.Bool.{Bool, true, false, not, ◌&&◌}
use mathlib.Core.List.{List, [], ◌∷◌, ◌++◌}
use native.Mathlib.Omega.{arith}
use lib.ListN.{length, take, drop, length-drop}
use lib.Dec.{ltb, eqb}
use borrow.Author.Tests.{ltb-false}
use Rattle.fields.specs.Counting.{joined}
use Rattle.fields.specs.Rules.{Rule, rule, Silent}
use Rattle.fields.specs.Program.{Block, Source, blocks_of, no_block, numbered}
use Rattle.fields.specs.Number.{Bytes}
use Rattle.fields.proofs.NumberLaws.{bytes_drop}
use Rattle.fields.proofs.RuleLaws.{silent_split}
use Rattle.fields.proofs.RefusalLaws.{rules_append, rules_joined}
use Rattle.image.specs.Layout.{span_of, spans_of}
use Rattle.image.specs.Reading.{size_here, load_here, run_here, block_here, after_block, block_rules, end_rules, table_rules, table_blocks, entry_in, blocks_in, meeting_rules, image_rules, image_source, read_image}
use Rattle.image.specs.Asking.{Whereabouts, where_is}
use Rattle.image.specs.Standing.{is_cut, stands_at}
use Rattle.image.proofs.NumberLaws.{number_below}
use Rattle.image.proofs.LayoutLaws.{span_is}
use Rattle.image.proofs.ReaderLaws.{length-numbered}
use Rattle.image.proofs.ReadLaws.{numbered_blocks}
use Rattle.image.proofs.TableLaws.{block_in_lem, length_here, table_few, table_length}
use Rattle.scanboot.specs.Bounds.{SmallRefusal}
use Rattle.scanboot.proofs.SmallLaws.{Small, SmallRules, small_unless}
use Rattle.scanboot.proofs.SourceLaws.{EachSmall, Bounded}

rules_of_table : (turns k : ℕ) (rest : List ℕ) → turns + k ≤ 4097 → SmallRules (table_rules turns k rest)
unfolding table_rules
rules_of_table zero k rest h = tt
rules_of_table (suc turns) k rest h = (omega arith, go (eqb (size_here rest) 0) (rules_of_table turns (k + 1) (after_block rest) (omega arith)))
  where
    go : (t : Bool) → SmallRules (table_rules turns (k + 1) (after_block rest)) → SmallRules (elim t [ true ↦ end_rules k rest | false ↦ block_rules k rest ++ table_rules turns (k + 1) (after_block rest) ])
    go true more = omega arith
    go false more = rules_append SmallRefusal (block_rules k rest) (table_rules turns (k + 1) (after_block rest)) (omega arith) more

-- a block a turn
few_turns : (turns : ℕ) (rest : List ℕ) → length (table_blocks turns rest) ≤ turns
unfolding table_blocks
few_turns zero rest = omega arith
few_turns (suc turns) rest = go (eqb (size_here rest) 0) (few_turns turns (after_block rest))
  where
    go : (t : Bool) → length (table_blocks turns (after_block rest)) ≤ turns → length {A = Block} (elim t [ true ↦ [] | false ↦ block_here rest ∷ table_blocks turns (after_block rest) ]) ≤ suc turns
    go true h = omega arith
    go false h = omega arith

few_blocks : (s : List ℕ) → length (blocks_in s) ≤ 4097
unfolding blocks_in
few_blocks s = few_turns 4097 (drop 4 s)

-- what is known of an image's source once it has been read
pub record WasRead (s : List ℕ) (src : Source) : Type 0 where
  pub is : src ≡ image_source s
  pub long : 4 ≤ length s
  pub short : length s ≤ 16777216
  pub silent : Silent (table_rules 4097 0 (drop 4 s))

pub image_read : (s : List ℕ) → Small (WasRead s) (read_image s)
unfolding read_image image_rules
image_read s =
    small_unless (WasRead s) (two ++ (table ++ pairs)) (image_source s)
    (rules_append SmallRefusal two (table ++ pairs) (omega arith)
    (rules_append SmallRefusal table pairs (rules_of_table 4097 0 (drop 4 s) (omega arith))
    (rules_joined SmallRefusal (meeting_rules (blocks_in s)) (length (blocks_in s)) (λ i h. omega (arith, few_blocks s)))))
    (λ q.
    record {
      is = refl;
      long = ltb-false (length s) 4 q.1.0;
      short = ltb-false 16777216 (length s) q.0;
      silent = (silent_split table pairs q.1.1).0;
    })
  where
    table : List Rule
    table = table_rules 4097 0 (drop 4 s)

    pairs : List Rule
    pairs = joined (meeting_rules (blocks_in s)) (length (blocks_in s))

    two : List Rule
    two = rule (ltb 16777216 (length s)) 20 0 ∷ rule (ltb (length s) 4) 21 0 ∷ []

-- no block is longer than the room of all
each_small : (k : ℕ) (bs : List Block) → k + length bs ≤ 4096 → spans_of bs ≤ 16777216 → EachSmall (numbered k bs)
unfolding numbered spans_of
each_small k [] h r = tt
each_small k (b ∷ bs) h r =
    let l = span_is (length b.bytes) in
    ((omega arith, omega arith), each_small (k + 1) bs (omega arith) (omega arith))

-- what is answered of a block is small
abbrev pub Placed : Whereabouts → Type 0
Placed w = (length w.block.bytes ≤ 16777216) × (w.block.load < 2 ^ 32) × (w.block.run < 2 ^ 32) × (w.raw ≤ 16777216)

-- Of an image that was read: its block count, and that its blocks lie within it.
module _ (s : List ℕ) (src : Source) (known : WasRead s src) where
  pub blocks_few : length (blocks_in s) ≤ 4096
  unfolding blocks_in
  blocks_few = omega (arith, table_few 4097 0 (drop 4 s) (omega arith) known.silent)

  pub blocks_within : 8 + spans_of (blocks_in s) ≡ length s
  unfolding blocks_in
  blocks_within =
      omega (arith, known.long, table_length 4097 0 (drop 4 s) refl (omega arith) known.silent, length-drop 4 s)

  pub image_bounded : Bounded 4096 src
  unfolding image_source
  image_bounded = rw known.is (record { few = rw (length-numbered 0 (blocks_in s)) blocks_few; each = each_small 0 (blocks_in s) (omega (arith, blocks_few)) (omega (arith, known.short, blocks_within)) })

  -- the blocks, without the numbers that they were handed on with
  pub blocks_read : blocks_of src ≡ blocks_in s
  unfolding blocks_of image_source
  blocks_read = rw known.is (numbered_blocks 0 (blocks_in s))

  pub entry_read : Bytes s → src.entry < 2 ^ 32
  unfolding image_source entry_in
  entry_read b = rw known.is (number_below s 0 b)

  -- a block's addresses, and the place of its bytes
  pub block_read : (k : ℕ) → k < length (blocks_in s) → Placed (where_is (blocks_in s) k)
  unfolding blocks_in where_is block_here
  block_read k h =
      let rest = drop (spans_of (take k (blocks_in s))) (drop 4 s) in
      let here = block_in_lem 4097 0 (drop 4 s) known.silent k h in
      let whole : 12 + size_here rest ≤ length rest = omega (arith, here.stands.whole, span_is (size_here rest)) in
      let left : length rest ≡ length s - 4 - spans_of (take k (blocks_in s)) = simp length-drop in
      rw (here.is, length_here rest here.stands.whole)
      (omega (arith, known.short), omega (arith, here.real, here.stands), omega (arith, here.real, here.stands), omega (arith, known.short, here.real))

-- What stands at a place, where rule 20 does not hold and no block is cut, of an image of bytes.
pub placed_at : (s : List ℕ) (place : ℕ) → Bytes s → length s ≤ 16777216 → is_cut (drop place s) ≡ false → Placed (stands_at s place)
unfolding stands_at block_here load_here run_here
placed_at s place b short h = go (eqb (size_here rest) 0) h
  where
    rest : List ℕ
    rest = drop place s

    go : (t : Bool) → not t && ltb (length rest) (span_of (size_here rest)) ≡ false → Placed (elim t [ true ↦ record { block = no_block; raw = 0 } | false ↦ record { block = block_here rest; raw = place + 12 } ])
    go true h = (omega arith, omega arith, omega arith, omega arith)
    go false h =
        let whole = ltb-false (length rest) (span_of (size_here rest)) h in
        let room : 12 + size_here rest ≤ length rest = omega (arith, span_is (size_here rest)) in
        let left = length-drop place s in
        let bytes = bytes_drop place s b in
        (rw (length_here rest whole) (omega arith), number_below rest 4 bytes, number_below rest 8 bytes, omega arith)
