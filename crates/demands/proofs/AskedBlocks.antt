-- What asking for blocks answers gives the program back, in every order: each block's bytes stand in the image, after undoing, at the offset that is answered, and the blocks below the count
-- are all there are.
use Prim.Native.Nat.{ℕ, zero, suc, ◌<◌, ◌≤◌}
use mathlib.Core.Path.{◌≡◌, refl, ap, sym, ◌∙◌}
use mathlib.Core.List.{List, [], ◌∷◌}
use native.Mathlib.Omega.{arith}
use lib.ListN.{length, take, get_or, length-map}
use lib.Seq.{take-suc, take-length}
use Rattle.fields.specs.declared.Part.{Part}
use Rattle.fields.specs.Number.{Bytes}
use Rattle.fields.specs.Options.{Options, plain, in_order}
use Rattle.fields.specs.Answer.{Answer}
use Rattle.fields.specs.Counting.{joined}
use Rattle.fields.specs.Rules.{Outcome, refused, done}
use Rattle.fields.specs.Program.{Numbered, Program, Source, blocks_of, program_of, no_block}
use Rattle.coff.specs.Reading.{coff_source}
use Rattle.image.specs.Layout.{image_of}
use Rattle.image.specs.Order.{undone, written}
use Rattle.image.specs.Reading.{blocks_in, image_source, read_image, reading_in, reading_of, numbers_of_reading}
use Rattle.image.specs.Converting.{converting}
use Rattle.image.specs.Asking.{numbers_of_asked}
use Rattle.image.specs.Walking.{block_at, place_of, Ready, Accepted}
use Rattle.demands.specs.Valid.{Valid, counted}
use Rattle.ranges.specs.declared.row.Cursor.{Cursor}
use Rattle.image.proofs.UndoneLaws.{tells_in}
use Rattle.image.proofs.ReadLaws.{source_blocks, accepted}
use Rattle.image.proofs.AskingLaws.{found_here, asked}
use Rattle.image.proofs.ReaderLaws.{length-numbered}
use Rattle.image.proofs.OrderLaws.{length-undone, bytes_undone, written_undone}
use Rattle.demands.proofs.RoundTrip.{written_reads_back, program_counted}
use Rattle.demands.proofs.Exact.{read_writes_back}
use Rattle.demands.proofs.Convertible.{converted, conversion_is_kept, conversion_is_valid}
use Rattle.demands.specs.Spared.{Passes}
use Rattle.demands.proofs.PlacesIn.{header, header_read}
use Rattle.demands.proofs.Passing.{order_of, image_asked, read_passes, written_reads}
use Rattle.scanboot.specs.Bounds.{SmallReading}
use Rattle.demands.specs.Unpacking.{unpacked_reading, unpacked_asked}
use Rattle.demands.proofs.UnpackingLaws.{unpack_reading}
use Rattle.scanboot.proofs.AnswerLaws.{reading_small}
use Rattle.demands.proofs.Unpacks.{asked_unpacks}
use Rattle.demands.specs.Promises.{image_numbers, block_numbers}
use Rattle.demands.specs.Rebuilding.{Told, figure, block_by, program_by, Called, program_of_calls}

-- a row is made again from its elements, in the order of their numbers
front_again : {A : Type 0} (l : List A) (d : A) (g : ℕ → A) → ((k : ℕ) → k < length l → g k ≡ get_or l k d) → (n : ℕ) → n ≤ length l → joined (λ k. g k ∷ []) n ≡ take n l
unfolding joined
front_again l d g same zero h = refl
front_again l d g same (suc n) h =
    rw (front_again l d g same n (omega arith), same n (omega arith)) (sym (take-suc l n d (omega arith)))

row_again : {A : Type 0} (l : List A) (d : A) (g : ℕ → A) → ((k : ℕ) → k < length l → g k ≡ get_or l k d) → joined (λ k. g k ∷ []) (length l) ≡ l
row_again l d g same = front_again l d g same (length l) (omega arith) ∙ take-length l

numbers_of : {p : Part} {size load run : ℕ} → p.size ≡ size → p.load.0 ≡ load → p.run.0 ≡ run → numbers_of_asked (done p) ≡ record { code = 0; index = 0; figures = size ∷ load ∷ run ∷ p.raw.0 ∷ [] }
unfolding numbers_of_asked
numbers_of s l r = rw (s, l, r)

-- An image that was read.
module _ (image : List ℕ) (s : Source) (reads : read_image image ≡ done s) where
  pub was_read : Accepted image s.entry (length s.parts)
  unfolding reading_of
  was_read = accepted image s.entry (length s.parts) (rw reads)

  pub blocks_are : blocks_of s ≡ blocks_in image
  blocks_are =
      let same : s ≡ image_source image = let q = sym reads ∙ was_read.read in cc in
      rw same (source_blocks image)

-- One that was read in the order that was told.
module _ (o : Options) (image : List ℕ) (s : Source) (reads : reading_in o image ≡ done s) where
  abbrev i : List ℕ
  i = undone o.order image

  abbrev known : Passes o × (read_image i ≡ done s)
  known = read_passes o image s reads

  -- every block below the count is told of, and its bytes stand where that says
  pub asked_tells : (k : ℕ) → k < length (blocks_of s) → Told o image k (get_or (blocks_of s) k no_block)
  asked_tells k low =
      let e = blocks_are i s known.1 in
      let w = was_read i s known.1 in
      let n : k < length (blocks_in i) = rw e at low in
      let c : Cursor = record { at = place_of i k; number = k } in
      let b = header o.order image c in
      let ready : Ready i c = record { framed = w.framed; here = record { place = refl }; more = n } in
      let block = tells_in o.order image c ready b (header_read o.order image c) in
      let t = block.tells in
      let found = ap (λ (p : Part). done p) (found_here i c b ready.here t) ∙ asked i k s.entry (length s.parts) w (omega (arith, w.count_is)) in
      let is : get_or (blocks_of s) k no_block ≡ block_at i k = unfold block_at in rw e in
      rw is
      (record {
        offset = b.part.raw.0;
        numbers = rw (image_asked o known.0 image k, ← found) (numbers_of t.size t.load t.run);
        within = omega (arith, t, length-undone o.order image);
        stands = rw (← t.size) (sym t.bytes);
        area = rw (← t.size) (sym block.area);
      })

  -- its figures give it
  pub figures_give_block : (k : ℕ) → k < length (blocks_of s) → block_by (undone o.order image) (block_numbers o image k) ≡ get_or (blocks_of s) k no_block
  unfolding block_by
  figures_give_block k low = let t = asked_tells k low in rw (t.numbers, t.stands)

  count_told : figure (image_numbers o image) 1 ≡ length (blocks_of s)
  unfolding reading_of numbers_of_reading blocks_of
  count_told = rw reads (sym (length-map s.parts (λ (p : Numbered). p.block)))

  program_again : (reading : Answer) (answers : ℕ → Answer) → reading ≡ image_numbers o image → ((k : ℕ) → k < length (blocks_of s) → answers k ≡ block_numbers o image k) → program_by i reading answers ≡ program_of s
  unfolding program_by program_of
  program_again reading answers e same =
      let entry : figure (image_numbers o image) 0 ≡ s.entry = unfold reading_of numbers_of_reading in rw reads in
      let each : (k : ℕ) → k < length (blocks_of s) → block_by i (answers k) ≡ get_or (blocks_of s) k no_block = λ k low. rw (same k low) (figures_give_block k low) in
      rw (e, entry, count_told, row_again (blocks_of s) no_block (λ k. block_by i (answers k)) each)

  -- all figures of all blocks, with those of the whole image, give the program that was read
  pub figures_give_program : program_by (undone o.order image) (image_numbers o image) (block_numbers o image) ≡ program_of s
  figures_give_program = program_again (image_numbers o image) (block_numbers o image) refl (λ k low. refl)

-- What C gets.

-- code 0 says that the image was read
success_read : (o : Outcome Source) → SmallReading (reading_of o) → (numbers_of_reading (reading_of o)).code ≡ 0 → (s : Source) × (o ≡ done s)
unfolding reading_of numbers_of_reading
success_read (refused code index) small e = absurd (omega (arith, small.real))
success_read (done s) small e = (s, refl)

module _ (o : Options) (image : List ℕ) (small : SmallReading (reading_of (reading_in o image))) (reading : ℕ) (block addresses : ℕ → ℕ) (called : Called o image reading block addresses) where
  reading_comes_out : unpacked_reading reading ≡ image_numbers o image
  reading_comes_out = rw called.read (unpack_reading (reading_of (reading_in o image)) small)

  asked_comes_out : (k : ℕ) → k < figure (image_numbers o image) 1 → unpacked_asked (block k) (addresses k) ≡ block_numbers o image k
  asked_comes_out k low =
      let c = called.asked k (rw reading_comes_out low) in
      rw (c.0, c.1) (asked_unpacks o image k)

  program_comes_out : (s : Source) → reading_in o image ≡ done s → program_of_calls o image reading block addresses ≡ program_of s
  program_comes_out s reads =
      program_again o image s reads (unpacked_reading reading) (λ k. unpacked_asked (block k) (addresses k)) reading_comes_out
      (λ k low. asked_comes_out k (rw (count_told o image s reads) low))

-- Of an image of bytes, C's numbers and those bytes give the program that was read; where C gets code 0 there is one, and writing it in the same order gives the image.
module _ (o : Options) (image : List ℕ) (bytes : Bytes image) (reading : ℕ) (block addresses : ℕ → ℕ) (called : Called o image reading block addresses) where
  pub calls_give_program : (s : Source) → reading_in o image ≡ done s → program_of_calls o image reading block addresses ≡ program_of s
  calls_give_program = program_comes_out o image (reading_small o image bytes) reading block addresses called

  pub calls_give_image : (unpacked_reading reading).code ≡ 0 → written o.order (image_of (program_of_calls o image reading block addresses)) ≡ image
  calls_give_image e =
      let small = reading_small o image bytes in
      let r = success_read (reading_in o image) small (rw (reading_comes_out o image small reading block addresses called) at e) in
      let i = undone o.order image in
      rw (calls_give_program r.0 r.1, read_writes_back i r.0 (bytes_undone o.order image bytes) (read_passes o image r.0 r.1).1)
      (written_undone o.order image)

-- Of the image of a program within the rules, in an order that passes, they give that program ..
pub calls_give_back : (o : Options) → Passes o → (p : Program) → Valid p → (reading : ℕ) (block addresses : ℕ → ℕ) → Called o (written o.order (image_of p)) reading block addresses → program_of_calls o (written o.order (image_of p)) reading block addresses ≡ p
calls_give_back o passes p v reading block addresses called =
    program_comes_out o (written o.order (image_of p)) small reading block addresses called (counted p) reads ∙ program_counted p
  where
    reads : reading_in o (written o.order (image_of p)) ≡ done (counted p)
    reads = written_reads o passes (image_of p) ∙ written_reads_back p v

    small : SmallReading (reading_of (reading_in o (written o.order (image_of p))))
    small = unfold reading_of counted in rw reads (v.enters, rw (length-numbered 0 p.blocks) v.few)

-- .. and so of what conversion makes, in the order that was asked for: the file's entry point and its kept sections.
pub calls_give_kept :
    (o : Options) (file : List ℕ) (room : ℕ) (p : Program)
    → Bytes file
    → converting o file room ≡ done p
    → (reading : ℕ) (block addresses : ℕ → ℕ)
    → Called (in_order o.order plain) (written o.order (image_of p)) reading block addresses
    → program_of_calls (in_order o.order plain) (written o.order (image_of p)) reading block addresses ≡ program_of (coff_source o file)
calls_give_kept o file room p bytes made reading block addresses called =
    calls_give_back (in_order o.order plain) (order_of o (converted o file room p made).asked) p (conversion_is_valid o file room p bytes made) reading block addresses called
    ∙ sym (conversion_is_kept o file room p made)
