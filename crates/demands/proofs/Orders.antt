-- The four byte orders of an image. What is written in an order is read in it as the program it was made from, and written back as it was; the four images of one program are read, asked,
-- loaded and checked alike; and order 3 is every four bytes of the image reversed.
use Prim.Native.Nat.{ℕ, ◌+◌, ◌*◌, ◌/◌, ◌^◌, ◌<◌, ◌≤◌}
use mathlib.Core.Path.{◌≡◌, refl, ap, sym, ◌∙◌}
use mathlib.Core.Bool.{false}
use mathlib.Core.List.{List, [], ◌∷◌, ◌++◌, append_assoc}
use native.Mathlib.Omega.{arith}
use lib.ListN.{length, take, drop, take-append-drop}
use Rattle.fields.specs.Number.{Bytes, le32, little}
use Rattle.fields.specs.Turning.{turned, turned_if}
use Rattle.fields.specs.Rules.{Outcome, done, rules_first}
use Rattle.fields.specs.Options.{Options, plain, in_order, is_no_order, option_rules}
use Rattle.fields.specs.Program.{Block, Program, Source, program_of}
use Rattle.fields.proofs.TurningLaws.{turned-append}
use Rattle.coff.specs.Reading.{read_coff}
use Rattle.coff.proofs.OrderLaws.{read_in_order}
use Rattle.image.specs.Layout.{number_bytes, span_of, image_of_block, image_of_blocks, image_of, spans_of, image_length}
use Rattle.image.specs.Order.{turns_numbers, turns_data, numbers_in, area_in, undone, written, undone_from}
use Rattle.image.specs.Spelling.{spelled_block, spelled_blocks, spelled}
use Rattle.image.specs.Reading.{blocks_in, read_image, reading_in}
use Rattle.image.specs.Asking.{asking, asking_in}
use Rattle.image.specs.Standing.{standing, standing_in}
use Rattle.image.specs.Walking.{place_of}
use Rattle.image.specs.Converting.{writing, sizing, converting, measuring}
use Rattle.image.proofs.NumberLaws.{length-number}
use Rattle.image.proofs.LayoutLaws.{length_block}
use Rattle.image.proofs.OrderLaws.{undone_written, written_undone, bytes_undone}
use Rattle.image.proofs.SpellingLaws.{Fit, written_spelled}
use Rattle.loader.specs.Loading.{loading, loading_image, loading_coff}
use Rattle.compare.specs.Checking.{comparing, checking}
use Rattle.demands.specs.Valid.{EachSound, Valid, counted}
use Rattle.demands.proofs.RoundTrip.{written_reads_back}
use Rattle.demands.proofs.Exact.{read_writes_back}
use Rattle.demands.proofs.Convertible.{converted, conversion_reads_back}
use Rattle.demands.proofs.Passing.{order_alone, order_of, written_reads, read_passes}
use Rattle.demands.proofs.PlacesIn.{stands_in}
use Rattle.demands.proofs.AskedBlocks.{was_read}

-- For every program within the rules: its image in an order, read in that order, gives it back, its blocks counted from 0 ..
pub written_reads_back_in : (order : ℕ) → is_no_order order ≡ false → (p : Program) → Valid p → reading_in (in_order order plain) (written order (image_of p)) ≡ done (counted p)
written_reads_back_in order h p v = written_reads (in_order order plain) (order_alone order h) (image_of p) ∙ written_reads_back p v

-- .. so does what conversion makes, read in the order that was asked for; that it is "same" in that order and loads as the file does is in Converted.antt ..
pub conversion_reads_back_in : (o : Options) (f : List ℕ) (room : ℕ) (p : Program) → Bytes f → converting o f room ≡ done p → reading_in (in_order o.order plain) (written o.order (image_of p)) ≡ done (counted p)
conversion_reads_back_in o f room p bytes made =
    written_reads (in_order o.order plain) (order_of o (converted o f room p made).asked) (image_of p) ∙ conversion_reads_back o f room p bytes made

-- .. and bytes that are read in an order are the image, in that order, of what was read.
module _ (order : ℕ) (s : List ℕ) (src : Source) (bytes : Bytes s) where
  pub undone_writes_back : read_image (undone order s) ≡ done src → written order (image_of (program_of src)) ≡ s
  undone_writes_back h = rw (read_writes_back (undone order s) src (bytes_undone order s bytes) h) (written_undone order s)

  pub read_writes_back_in : reading_in (in_order order plain) s ≡ done src → written order (image_of (program_of src)) ≡ s
  read_writes_back_in h = undone_writes_back (read_passes (in_order order plain) s src h).1

-- At the place of each block of an image that is read, and at that of its end flag, stands in each order what stands there in order 0.
module _ (image : List ℕ) (s : Source) (reads : read_image image ≡ done s) (k : ℕ) (low : k ≤ length (blocks_in image)) where
  written_stands : (order : ℕ) → standing (undone_from order (place_of image k) (written order image)) (place_of image k) ≡ standing image (place_of image k)
  written_stands order =
      let e = undone_written order image in
      rw e at (stands_in order (written order image) (rw e (was_read image s reads).framed) k (rw e low))

-- Of two orders from 0 to 3, whatever else is asked for.
module _ (a b : ℕ) (passes : is_no_order a ≡ false) (passes' : is_no_order b ≡ false) (o : Options) where
  -- the rules of the options say the same
  first_alike : {A : Type 0} (out : Outcome A) → rules_first (option_rules (in_order a o)) out ≡ rules_first (option_rules (in_order b o)) out
  first_alike out = rw (passes, passes')

  -- One file is converted alike, but for how the bytes stand ..
  pub orders_convert_alike : (file : List ℕ) (room : ℕ) → converting (in_order a o) file room ≡ converting (in_order b o) file room
  unfolding converting
  orders_convert_alike file room = rw (read_in_order a o file, read_in_order b o file) (first_alike (writing (read_coff o file) room))

  -- .. measured alike, and loaded straight into memory alike: these two calls of C take no order ..
  pub orders_measure_alike : (file : List ℕ) → measuring (in_order a o) file ≡ measuring (in_order b o) file
  unfolding measuring
  orders_measure_alike file = rw (read_in_order a o file, read_in_order b o file) (first_alike (sizing (read_coff o file)))

  pub orders_load_file_alike : (file : List ℕ) (base room : ℕ) → loading_coff (in_order a o) file base room ≡ loading_coff (in_order b o) file base room
  unfolding loading_coff
  orders_load_file_alike file base room = rw (read_in_order a o file, read_in_order b o file) (first_alike (loading (read_coff o file) base room))

  -- .. and one image, written in both, is read, asked by number and by place, loaded, and checked against every file alike.
  module _ (image : List ℕ) where
    pub orders_read_alike : reading_in (in_order a o) (written a image) ≡ reading_in (in_order b o) (written b image)
    unfolding reading_in
    orders_read_alike = rw (undone_written a image, undone_written b image) (first_alike (read_image image))

    pub orders_ask_alike : (k : ℕ) → asking_in (in_order a o) (written a image) k ≡ asking_in (in_order b o) (written b image) k
    unfolding asking_in
    orders_ask_alike k = rw (undone_written a image, undone_written b image) (first_alike (asking image k))

    pub orders_stand_alike : (s : Source) → read_image image ≡ done s → (k : ℕ) → k ≤ length (blocks_in image) → standing_in (in_order a o) (written a image) (place_of image k) ≡ standing_in (in_order b o) (written b image) (place_of image k)
    unfolding standing_in
    orders_stand_alike s reads k low =
        rw (written_stands image s reads k low a, written_stands image s reads k low b) (first_alike (standing image (place_of image k)))

    pub orders_load_alike : (base room : ℕ) → loading_image (in_order a o) (written a image) base room ≡ loading_image (in_order b o) (written b image) base room
    unfolding loading_image
    orders_load_alike base room = rw (undone_written a image, undone_written b image) (first_alike (loading (read_image image) base room))

    pub orders_check_alike : (file : List ℕ) → checking (in_order a o) file (written a image) ≡ checking (in_order b o) file (written b image)
    unfolding checking
    orders_check_alike file =
        rw (undone_written a image, undone_written b image, read_in_order a o file, read_in_order b o file) (first_alike (comparing (read_coff o file) (read_image image)))

-- Order 3. Every part of an image is a multiple of four bytes long.

numbers_turned : (xs : List ℕ) → numbers_in 3 xs ≡ turned xs
unfolding numbers_in turns_numbers turned_if
numbers_turned xs = refl

area_turned : (xs : List ℕ) → area_in 3 xs ≡ turned xs
unfolding area_in turns_data turned_if
area_turned xs = refl

block_turned : (b : Block) → spelled_block 3 b ≡ turned (image_of_block b)
unfolding spelled_block
block_turned b =
    let fields : length (take 12 (image_of_block b)) ≡ 4 * 3 = unfold image_of_block in unfold number_bytes in unfold le32 in unfold little in refl in
    rw (numbers_turned, area_turned)
    (sym (turned-append 3 (take 12 (image_of_block b)) (drop 12 (image_of_block b)) fields) ∙ ap turned (take-append-drop 12 (image_of_block b)))

blocks_turned : (bs : List Block) → spelled_blocks 3 bs ++ number_bytes 0 ≡ turned (image_of_blocks bs ++ number_bytes 0)
unfolding spelled_blocks image_of_blocks
blocks_turned [] = unfold number_bytes in unfold le32 in unfold little in unfold turned in refl
blocks_turned (b ∷ bs) =
    let m = 3 + (length b.bytes + 3) / 4 in
    let long : length (image_of_block b) ≡ 4 * m = length_block b ∙ (unfold span_of in omega arith) in
    append_assoc (spelled_block 3 b) (spelled_blocks 3 bs) (number_bytes 0)
    ∙ rw (block_turned b, blocks_turned bs) (sym (turned-append m (image_of_block b) (image_of_blocks bs ++ number_bytes 0) long))
    ∙ ap turned (sym (append_assoc (image_of_block b) (image_of_blocks bs) (number_bytes 0)))

each_fits : (bs : List Block) → EachSound bs → spans_of bs < 2 ^ 32 → Fit bs
unfolding spans_of span_of
each_fits [] each small = tt
each_fits (b ∷ bs) each small = (each.0.real, omega arith, each_fits bs each.1 (omega arith))

-- a program within the rules has blocks that fit their fields
pub valid_fits : (p : Program) → Valid p → Fit p.blocks
unfolding image_length
valid_fits p v = each_fits p.blocks v.each (omega (arith, v.short))

-- The image of a program within the rules, in order 3, is its image with every four bytes reversed.
pub order_3_turns_all : (p : Program) → Valid p → written 3 (image_of p) ≡ turned (image_of p)
order_3_turns_all p v = written_spelled 3 p (valid_fits p v) v.few ∙ turns
  where
    turns : spelled 3 p ≡ turned (image_of p)
    turns =
        unfold spelled in unfold image_of in
        rw (numbers_turned, blocks_turned p.blocks)
        (sym (turned-append 1 (number_bytes p.entry) (image_of_blocks p.blocks ++ number_bytes 0) (length-number p.entry)))
