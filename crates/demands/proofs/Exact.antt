-- What was read writes back: where no rule holds, the fields, bytes and padding that were read are all that stands there.
use Prim.Native.Nat.{ℕ, zero, suc, ◌+◌, ◌<◌, ◌≤◌}
use mathlib.Core.Path.{◌≡◌, refl, ap, sym}
use mathlib.Core.Bool.{Bool, true, false, ◌&&◌, true≢false}
use mathlib.Core.List.{List, [], ◌∷◌, ◌++◌, append_assoc}
use mathlib.Core.Logic.{◌↔◌, ⊎_elim}
use native.Mathlib.Nat.{eq-zero-or-pos}
use native.Mathlib.Omega.{arith}
use borrow.Author.Tests.{ltb-false, eqb-true}
use lib.ListN.{length, take, drop, replicate, take-append-drop}
use lib.Seq.{drop-drop, take_all}
use lib.Dec.{eqb}
use Rattle.fields.specs.Number.{Bytes}
use Rattle.fields.specs.Counting.{joined}
use Rattle.fields.specs.Rules.{done, Silent}
use Rattle.fields.specs.Program.{Block, Program, Source, program_of, meets_before}
use Rattle.fields.proofs.NumberLaws.{bytes_take, bytes_drop}
use Rattle.fields.proofs.RuleLaws.{done_silent, silent_split, silent_at}
use Rattle.fields.proofs.CountingLaws.{any_below_lem}
use Rattle.image.specs.Layout.{number_bytes, pad_of, span_of, area_of, image_of_block, image_of_blocks, image_of}
use Rattle.image.specs.Reading.{zeros, size_here, load_here, run_here, area_here, bytes_here, padding_here, block_here, after_block, table_rules, table_blocks, entry_in, blocks_in, meeting_rules, image_rules, image_source, read_image}
use Rattle.demands.specs.Valid.{Sound, EachSound, Apart, Valid, counted}
use Rattle.image.proofs.NumberLaws.{number_again, number_below}
use Rattle.image.proofs.AreaLaws.{bytes_are, area_split, area_then, length_bytes, length_padding}
use Rattle.image.proofs.LayoutLaws.{span_is, length_image}
use Rattle.image.proofs.TableLaws.{Stands, length_here, silent_end, silent_block, blocks_at_end, blocks_at_block, table_few}
use Rattle.demands.proofs.RoundTrip.{written_reads_back, program_counted}

zeros_are : (l : List ℕ) → zeros l ≡ true → l ≡ replicate (length l) 0
unfolding zeros
zeros_are [] h = refl
zeros_are (b ∷ l) h = go (eqb b 0) refl h (λ k. zeros_are l k)
  where
    go : (t : Bool) → eqb b 0 ≡ t → t && zeros l ≡ true → (zeros l ≡ true → l ≡ replicate (length l) 0) → b ∷ l ≡ replicate (suc (length l)) 0
    go true e k ih = rw (eqb-true b 0 e) (ap (λ (r : List ℕ). 0 ∷ r) (ih k))
    go false e k ih = absurd (true≢false (sym k))

-- a part in the middle and what follows it
cut : (n at : ℕ) (l : List ℕ) → take n (drop at l) ++ drop (at + n) l ≡ drop at l
cut n at l = rw (← (drop-drop n at l)) (take-append-drop n (drop at l))

-- A block that no rule refuses.
module _ (k : ℕ) (rest : List ℕ) (bytes : Bytes rest) (real : 0 < size_here rest) (stands : Stands k rest) where
  room : 12 + size_here rest + pad_of (size_here rest) ≤ length rest
  room = rw span_is at stands.whole

  padding_again : replicate (pad_of (size_here rest)) 0 ≡ padding_here rest
  padding_again =
      rw (length_padding rest stands.whole) at (sym (zeros_are (padding_here rest) stands.padded))

  area_again : area_of (bytes_here rest) ≡ area_here rest
  unfolding area_of
  area_again = rw (length_bytes rest stands.whole, padding_again) (area_split rest)

  -- it stands there byte for byte, and what follows it follows
  block_again : image_of_block (block_here rest) ++ after_block rest ≡ rest
  unfolding image_of_block block_here
  block_again = rw (length_bytes rest stands.whole, size_again, load_again, run_again, area_again) (simp append_assoc (rw (area_then, cut 4 8 rest, cut 4 4 rest) (cut 4 0 rest)))
    where
      size_again : number_bytes (size_here rest) ≡ take 4 (drop 0 rest)
      size_again = unfold size_here in number_again rest 0 bytes (omega (arith, room))

      load_again : number_bytes (load_here rest) ≡ take 4 (drop 4 rest)
      load_again = unfold load_here in number_again rest 4 bytes (omega (arith, room))

      run_again : number_bytes (run_here rest) ≡ take 4 (drop 8 rest)
      run_again = unfold run_here in number_again rest 8 bytes (omega (arith, room))

  sound_again : Sound (block_here rest)
  sound_again =
      record {
        real = rw (length_here rest stands.whole) real;
        raw = unfold block_here in rw bytes_are (bytes_take (size_here rest) (drop 12 rest) (bytes_drop 12 rest bytes));
        loads = rw (length_here rest stands.whole) (unfold block_here in stands.loads);
        runs = rw (length_here rest stands.whole) (unfold block_here in stands.runs);
      }

-- The end flag, with nothing behind it.
flag_again : (rest : List ℕ) → Bytes rest → size_here rest ≡ 0 → length rest ≡ 4 → number_bytes 0 ≡ rest
unfolding size_here
flag_again rest bytes flag n = rw (← flag, number_again rest 0 bytes (omega arith)) (take_all 4 rest (omega arith))

-- Blocks in a row, and the end flag behind them.
table_again : (turns k : ℕ) (rest : List ℕ) → Bytes rest → k + turns ≡ 4097 → k ≤ 4096 → Silent (table_rules turns k rest) → (image_of_blocks (table_blocks turns rest) ++ number_bytes 0 ≡ rest) × EachSound (table_blocks turns rest)
unfolding image_of_blocks after_block
table_again zero k rest bytes fuel few silent = absurd (omega arith)
table_again (suc turns) k rest bytes fuel few silent =
    ⊎_elim
    (λ e. rw (blocks_at_end turns rest e) (flag_again rest bytes e (silent_end turns k rest e silent), tt))
    (λ r.
    let q = silent_block turns k rest r silent in
    let more = table_again turns (k + 1) (after_block rest) (bytes_drop (span_of (size_here rest)) rest bytes) (omega arith) (omega (arith, q.0.few)) q.1 in
    rw (blocks_at_block turns rest r, append_assoc, more.0) (block_again k rest bytes r q.0, (sound_again k rest bytes r q.0, more.1)))
    (eq-zero-or-pos (size_here rest))

silent_apart : (bs : List Block) → Silent (joined (meeting_rules bs) (length bs)) → Apart bs
unfolding meets_before
silent_apart bs silent i j h l = any_below_lem _ j i h (silent_at (meeting_rules bs) (length bs) j l silent).0

-- The whole image, of which a reader finds an entry point and blocks.
abbrev found : List ℕ → Program
found s = record { entry = entry_in s; blocks = blocks_in s }

module _ (s : List ℕ) (bytes : Bytes s) (silent : Silent (image_rules s)) where
  long : 4 ≤ length s
  unfolding image_rules
  long = ltb-false (length s) 4 silent.1.0

  tables : Silent (table_rules 4097 0 (drop 4 s)) × Silent (joined (meeting_rules (blocks_in s)) (length (blocks_in s)))
  unfolding image_rules
  tables = silent_split (table_rules 4097 0 (drop 4 s)) (joined (meeting_rules (blocks_in s)) (length (blocks_in s))) silent.1.1

  blocks_again : (image_of_blocks (blocks_in s) ++ number_bytes 0 ≡ drop 4 s) × EachSound (blocks_in s)
  unfolding blocks_in
  blocks_again = table_again 4097 0 (drop 4 s) (bytes_drop 4 s bytes) (omega arith) (omega arith) tables.0

  few_again : length (blocks_in s) ≤ 4096
  unfolding blocks_in
  few_again = omega (arith, table_few 4097 0 (drop 4 s) (omega arith) tables.0)

  image_again : image_of (found s) ≡ s
  unfolding image_of entry_in
  image_again = rw (blocks_again.0, number_again s 0 bytes long) (cut 4 0 s)

  valid_again : Valid (found s)
  unfolding image_rules entry_in
  valid_again =
      record {
        enters = number_below s 0 bytes;
        few = few_again;
        each = blocks_again.1;
        apart = silent_apart (blocks_in s) tables.1;
        short = rw (← (length_image (found s)), image_again) (ltb-false 16777216 (length s) silent.0);
      }

-- A reader hands on the program that it finds, its blocks counted from 0, and no rule holds.
accepted_is : (s : List ℕ) (src : Source) → read_image s ≡ done src → Silent (image_rules s) × (counted (found s) ≡ src)
unfolding read_image image_source counted
accepted_is s src accepted = done_silent (image_rules s) (image_source s) src accepted

program_is : (s : List ℕ) (src : Source) → read_image s ≡ done src → found s ≡ program_of src
program_is s src accepted = sym (rw (← (accepted_is s src accepted).1) (program_counted (found s)))

-- For every byte string that is accepted: writing what was read gives exactly that byte string ..
pub read_writes_back : (s : List ℕ) (src : Source) → Bytes s → read_image s ≡ done src → image_of (program_of src) ≡ s
read_writes_back s src bytes accepted =
    rw (program_is s src accepted) at (image_again s bytes (accepted_is s src accepted).0)

-- .. what was read is within the rules ..
pub read_is_valid : (s : List ℕ) (src : Source) → Bytes s → read_image s ≡ done src → Valid (program_of src)
read_is_valid s src bytes accepted =
    rw (program_is s src accepted) at (valid_again s bytes (accepted_is s src accepted).0)

-- .. and nothing but a program was read, with its blocks counted from 0.
pub read_is_counted : (s : List ℕ) (src : Source) → read_image s ≡ done src → counted (program_of src) ≡ src
read_is_counted s src accepted = rw (program_is s src accepted) at (accepted_is s src accepted).1

-- A reader accepts the images of programs within the rules, and nothing else.
pub accepts_just_images : (s : List ℕ) → Bytes s → ((src : Source) × (read_image s ≡ done src)) ↔ ((p : Program) × Valid p × (image_of p ≡ s))
accepts_just_images s bytes = (
  λ a. (program_of a.0, read_is_valid s a.0 bytes a.1, read_writes_back s a.0 bytes a.1),
  λ a. (counted a.0, rw a.2 at (written_reads_back a.0 a.1)),
)
