-- No two different outcomes satisfy one promise: of every public function, with the promise as the prover reads it in the code. Of an answer that holds bytes that were lent all is the
-- same that is seen of it (`file_seen`, `image_seen`): a promise says which bytes these are, and not where they stand.
use Prim.Native.Nat.{ℕ}
use mathlib.Core.Path.{◌≡◌, refl, ap, sym, ◌∙◌}
use mathlib.Core.List.{List, [], ◌∷◌}
use native.Mathlib.Omega.{arith}
use lib.ListN.{length}
use Rattle.std.specs.Prelude.{Option, Some, None}
use Rattle.fields.specs.Program.{Block, Numbered}
use Rattle.fields.specs.Refusal.{told_by}
use Rattle.fields.specs.declared.Part.{Part}
use Rattle.fields.proofs.ReasonLaws.{one_result}
use Rattle.coff.specs.declared.Sections.{Sections}
use Rattle.coff.specs.Answer.{headers_in}
use Rattle.coff.specs.Parts.{Tells}
use Rattle.coff.proofs.PartLaws.{length_piece}
use Rattle.image.specs.declared.walking.BlockHeader.{BlockHeader}
use Rattle.image.specs.Handed.{contents_in}
use Rattle.image.specs.Walking.{TellsIn}
use Rattle.ranges.specs.declared.row.Cursor.{Cursor}
use Rattle.demands.specs.Seen.{file_seen, image_seen}
use Rattle.demands.proofs.SameOutcome.{same_answer, same_outcome, same_handed, parts_if_ok}
use Rattle.fields.proofs.number.u16_at.Reads as u16-at
use Rattle.fields.proofs.number.u32_at.Reads as u32-at
use Rattle.fields.proofs.number.put_u16.Reads as put-u16
use Rattle.fields.proofs.number.put_u32.Reads as put-u32
use Rattle.fields.proofs.buffer.copy_front.Reads as copy-front
use Rattle.fields.proofs.buffer.same.Reads as same
use Rattle.fields.proofs.turning.turned_number.Reads as turned-number
use Rattle.fields.proofs.turning.turned_place.Reads as turned-place
use Rattle.fields.proofs.turning.copy_turned.Reads as copy-turned
use Rattle.fields.proofs.ends.LoadAddressBegin.place.Reads as load-place
use Rattle.fields.proofs.ends.RunAddressBegin.place.Reads as run-place
use Rattle.fields.proofs.ends.FileOffsetBegin.place.Reads as raw-place
use Rattle.fields.proofs.ends.LoadAddressBegin.end.Reads as load-end
use Rattle.fields.proofs.ends.RunAddressBegin.end.Reads as run-end
use Rattle.fields.proofs.ends.FileOffsetBegin.end.Reads as raw-end
use Rattle.fields.proofs.refusal.Reason.code.Reads as reason-code
use Rattle.fields.proofs.refusal.Reason.at.Reads as reason-at
use Rattle.fields.proofs.refusal.RefusalFromReason.from.Reads as refusal-from
use Rattle.ranges.proofs.address.last_address.Reads as last-address
use Rattle.ranges.proofs.row.first.Reads as row_first
use Rattle.ranges.proofs.row.number_at.Reads as row-number-at
use Rattle.ranges.proofs.row.room.Reads as row_room
use Rattle.ranges.proofs.row.range_at.Reads as range_at
use Rattle.ranges.proofs.held.Held.meets.Reads as meets-held
use Rattle.ranges.proofs.held.first_held.Reads as first-held
use Rattle.ranges.proofs.cover.take_in.Reads as take_in
use Rattle.ranges.proofs.meeting.first_meeting.Reads as first-meeting
use Rattle.ranges.proofs.across.first_across.Reads as first-across
use Rattle.records.proofs.counting.count.Reads as count-records
use Rattle.patterns.proofs.zero.before_zero.Reads as before-zero
use Rattle.patterns.proofs.matching.takes.Reads as takes
use Rattle.patterns.proofs.matching.takes_alone.Reads as takes-alone
use Rattle.patterns.proofs.row.are_refused.Reads as are-refused
use Rattle.patterns.proofs.row.takes_any.Reads as takes-any
use Rattle.coff.proofs.parts.Coff.part_at.Reads as part_at
use Rattle.coff.proofs.parts.Coff.bytes_of.Reads as bytes-of
use Rattle.coff.proofs.reading.read.Reads as read-coff
use Rattle.image.proofs.walking.span.Reads as span
use Rattle.image.proofs.order.is_no_order.Reads as is-no-order
use Rattle.image.proofs.order.turns_numbers.Reads as turns-numbers
use Rattle.image.proofs.order.turns_data.Reads as turns-data
use Rattle.image.proofs.area.place_in.Reads as place-in
use Rattle.image.proofs.area.copy_bytes.Reads as copy-bytes
use Rattle.image.proofs.converting.convert.Reads as convert
use Rattle.image.proofs.reader.read.Reads as read-image
use Rattle.image.proofs.reader.read_in.Reads as read-in
use Rattle.image.proofs.asking.ask.Reads as ask
use Rattle.image.proofs.standing.stands_at.Reads as stands-at
use Rattle.image.proofs.measuring.measure_file.Reads as measure-file
use Rattle.image.proofs.measuring.measure.Reads as measure
use Rattle.image.proofs.walking.first.Reads as first
use Rattle.image.proofs.walking.header_at.Reads as header_at
use Rattle.image.proofs.walking.block_at.Reads as block_at
use Rattle.image.proofs.blocks.Image.block_at.Reads as image-block-at
use Rattle.loader.proofs.from_image.load_image.Reads as load-image
use Rattle.loader.proofs.from_coff.load_coff.Reads as load-coff
use Rattle.compare.proofs.checking.check.Reads as check
use Rattle.lines.proofs.listing.list.Reads as list
use Rattle.lines.proofs.output.put_output.Reads as put-output
use Rattle.scanboot.proofs.scanboot_version.Reads as scanboot-version
use Rattle.scanboot.proofs.scanboot_measure.Reads as scanboot-measure
use Rattle.scanboot.proofs.scanboot_block_at.Reads as scanboot-block-at
use Rattle.scanboot.proofs.scanboot_block_at_with.Reads as scanboot-block-at-with
use Rattle.scanboot.proofs.scanboot_block_addresses_at.Reads as scanboot-block-addresses-at
use Rattle.scanboot.proofs.scanboot_block_addresses_at_with.Reads as scanboot-block-addresses-at-with
use Rattle.scanboot.proofs.scanboot_convert.Reads as scanboot-convert
use Rattle.scanboot.proofs.scanboot_list.Reads as scanboot-list
use Rattle.scanboot.proofs.scanboot_read_image.Reads as scanboot-read-image
use Rattle.scanboot.proofs.scanboot_read_image_with.Reads as scanboot-read-image-with
use Rattle.scanboot.proofs.scanboot_block.Reads as scanboot-block
use Rattle.scanboot.proofs.scanboot_block_with.Reads as scanboot-block-with
use Rattle.scanboot.proofs.scanboot_block_addresses.Reads as scanboot-block-addresses
use Rattle.scanboot.proofs.scanboot_block_addresses_with.Reads as scanboot-block-addresses-with
use Rattle.scanboot.proofs.scanboot_load_image.Reads as scanboot-load-image
use Rattle.scanboot.proofs.scanboot_load_image_with.Reads as scanboot-load-image-with
use Rattle.scanboot.proofs.scanboot_load_coff.Reads as scanboot-load-coff
use Rattle.scanboot.proofs.scanboot_check.Reads as scanboot-check
use Rattle.scanboot.proofs.scanboot_measure_with.Reads as scanboot-measure-with
use Rattle.scanboot.proofs.scanboot_convert_with.Reads as scanboot-convert-with
use Rattle.scanboot.proofs.scanboot_load_coff_with.Reads as scanboot-load-coff-with
use Rattle.scanboot.proofs.scanboot_check_with.Reads as scanboot-check-with
use Rattle.scanboot.proofs.scanboot_takes.Reads as scanboot-takes

-- what is told of a section: it is left, or its part says all but where its bytes begin in the file
abbrev first_block : List Numbered → Block
first_block [] = record { load = 0; run = 0; bytes = [] }
first_block (p ∷ ps) = p.block

one_part : (f : List ℕ) (s : Sections) (i : ℕ) (r r' : Option Part) → Tells f s i r → Tells f s i r' → r ≡ r'
one_part f s i None None p q = refl
one_part f s i None (Some b) p q = absurd (omega (arith, ap length (sym p ∙ q.part)))
one_part f s i (Some b) None p q = absurd (omega (arith, ap length (sym p.part ∙ q)))
one_part f s i (Some b) (Some c) p q =
    let e = ap first_block (sym p.part ∙ q.part) in
    let many : b.size ≡ c.size = sym (length_piece f b.raw.0 b.size p.within) ∙ ap (λ (b : Block). length b.bytes) e ∙ length_piece f c.raw.0 c.size q.within in
    let loads : b.load.0 ≡ c.load.0 = ap (λ (b : Block). b.load) e in
    let runs : b.run.0 ≡ c.run.0 = ap (λ (b : Block). b.run) e in
    let place : b.raw.0 ≡ c.raw.0 = same_answer p.place q.place in
    λ j. Some (record { size = many j; load = record { 0 = loads j }; run = record { 0 = runs j }; raw = record { 0 = place j } })

-- fields

pub u16_at_one : (κs : _) (a : _) (r r' : _) (s s' : _) → u16-at.Post κs a r s → u16-at.Post κs a r' s' → r ≡ r'
u16_at_one κs a r r' s s' = same_answer

pub u32_at_one : (κs : _) (a : _) (r r' : _) (s s' : _) → u32-at.Post κs a r s → u32-at.Post κs a r' s' → r ≡ r'
u32_at_one κs a r r' s s' = same_answer

pub put_u16_one : (κs : _) (a : _) (r r' : _) (s s' : _) → put-u16.Post κs a r s → put-u16.Post κs a r' s' → s.0.now ≡ s'.0.now
put_u16_one κs a r r' s s' = same_answer

pub put_u32_one : (κs : _) (a : _) (r r' : _) (s s' : _) → put-u32.Post κs a r s → put-u32.Post κs a r' s' → s.0.now ≡ s'.0.now
put_u32_one κs a r r' s s' = same_answer

pub copy_front_one : (κs : _) (a : _) (r r' : _) (s s' : _) → copy-front.Post κs a r s → copy-front.Post κs a r' s' → s.0.now ≡ s'.0.now
copy_front_one κs a r r' s s' = same_answer

pub same_one : (κs : _) (a : _) (r r' : _) (s s' : _) → same.Post κs a r s → same.Post κs a r' s' → r ≡ r'
same_one κs a r r' s s' = same_answer

pub turned-number_one : (κs : _) (a : _) (r r' : _) (s s' : _) → turned-number.Post κs a r s → turned-number.Post κs a r' s' → r ≡ r'
turned-number_one κs a r r' s s' = same_answer

pub turned_place_one : (κs : _) (a : _) (r r' : _) (s s' : _) → turned-place.Post κs a r s → turned-place.Post κs a r' s' → r ≡ r'
turned_place_one κs a r r' s s' = same_answer

pub copy_turned_one : (κs : _) (a : _) (r r' : _) (s s' : _) → copy-turned.Post κs a r s → copy-turned.Post κs a r' s' → s.0.now ≡ s'.0.now
copy_turned_one κs a r r' s s' = same_answer

pub load_place_one : (κs : _) (a : _) (r r' : _) (s s' : _) → load-place.Post κs a r s → load-place.Post κs a r' s' → r ≡ r'
load_place_one κs a r r' s s' = same_answer

pub run_place_one : (κs : _) (a : _) (r r' : _) (s s' : _) → run-place.Post κs a r s → run-place.Post κs a r' s' → r ≡ r'
run_place_one κs a r r' s s' = same_answer

pub raw_place_one : (κs : _) (a : _) (r r' : _) (s s' : _) → raw-place.Post κs a r s → raw-place.Post κs a r' s' → r ≡ r'
raw_place_one κs a r r' s s' = same_answer

pub load_end_one : (κs : _) (a : _) (r r' : _) (s s' : _) → load-end.Post κs a r s → load-end.Post κs a r' s' → r ≡ r'
load_end_one κs a r r' s s' = same_answer

pub run_end_one : (κs : _) (a : _) (r r' : _) (s s' : _) → run-end.Post κs a r s → run-end.Post κs a r' s' → r ≡ r'
run_end_one κs a r r' s s' = same_answer

pub raw_end_one : (κs : _) (a : _) (r r' : _) (s s' : _) → raw-end.Post κs a r s → raw-end.Post κs a r' s' → r ≡ r'
raw_end_one κs a r r' s s' = same_answer

pub reason_code_one : (κs : _) (a : _) (r r' : _) (s s' : _) → reason-code.Post κs a r s → reason-code.Post κs a r' s' → r ≡ r'
reason_code_one κs a r r' s s' = same_answer

pub reason_at_one : (κs : _) (a : _) (r r' : _) (s s' : _) → reason-at.Post κs a r s → reason-at.Post κs a r' s' → r ≡ r'
reason_at_one κs a r r' s s' = same_answer

pub refusal_from_one : (κs : _) (a : _) (r r' : _) (s s' : _) → refusal-from.Post κs a r s → refusal-from.Post κs a r' s' → r ≡ r'
refusal_from_one κs a r r' s s' = same_answer

-- ranges

pub last_address_one : (κs : _) (a : _) (r r' : _) (s s' : _) → last-address.Post κs a r s → last-address.Post κs a r' s' → r ≡ r'
last_address_one κs a r r' s s' p q = omega (arith, p, q)

pub row_number_at_one : (κs : _) (a : _) (r r' : _) (s s' : _) → row-number-at.Post κs a r s → row-number-at.Post κs a r' s' → r ≡ r'
row_number_at_one κs a r r' s s' = same_answer

pub row_room_one : (κs : _) (a : _) (r r' : _) (s s' : _) → row_room.Post κs a r s → row_room.Post κs a r' s' → r ≡ r'
row_room_one κs a r r' s s' = same_answer

pub meets_held_one : (κs : _) (a : _) (r r' : _) (s s' : _) → meets-held.Post κs a r s → meets-held.Post κs a r' s' → r ≡ r'
meets_held_one κs a r r' s s' = same_answer

pub take_in_one : (κs : _) (a : _) (r r' : _) (s s' : _) → take_in.Post κs a r s → take_in.Post κs a r' s' → (s.0.now ≡ s'.0.now) × (s.1.0.now ≡ s'.1.0.now)
take_in_one κs a r r' s s' p q = (p.0 ∙ sym q.0, p.1 ∙ sym q.1)

pub first_held_one : (κs : _) (a : _) (r r' : _) (s s' : _) → first-held.Post κs a r s → first-held.Post κs a r' s' → r ≡ r'
first_held_one κs a r r' s s' = same_answer

pub first_meeting_one : (κs : _) (a : _) (r r' : _) (s s' : _) → first-meeting.Post κs a r s → first-meeting.Post κs a r' s' → r ≡ r'
first_meeting_one κs a r r' s s' = same_answer

pub first_across_one : (κs : _) (a : _) (r r' : _) (s s' : _) → first-across.Post κs a r s → first-across.Post κs a r' s' → r ≡ r'
first_across_one κs a r r' s s' = same_answer

-- records

pub count_records_one : (κs : _) (a : _) (r r' : _) (s s' : _) → count-records.Post κs a r s → count-records.Post κs a r' s' → r ≡ r'
count_records_one κs a r r' s s' = same_answer

-- patterns

pub before_zero_one : (κs : _) (a : _) (r r' : _) (s s' : _) → before-zero.Post κs a r s → before-zero.Post κs a r' s' → r ≡ r'
before_zero_one κs a r r' s s' = same_answer

pub takes_one : (κs : _) (a : _) (r r' : _) (s s' : _) → takes.Post κs a r s → takes.Post κs a r' s' → r ≡ r'
takes_one κs a r r' s s' = same_answer

pub takes_alone_one : (κs : _) (a : _) (r r' : _) (s s' : _) → takes-alone.Post κs a r s → takes-alone.Post κs a r' s' → r ≡ r'
takes_alone_one κs a r r' s s' = same_answer

pub are_refused_one : (κs : _) (a : _) (r r' : _) (s s' : _) → are-refused.Post κs a r s → are-refused.Post κs a r' s' → r ≡ r'
are_refused_one κs a r r' s s' = same_answer

pub takes_any_one : (κs : _) (a : _) (r r' : _) (s s' : _) → takes-any.Post κs a r s → takes-any.Post κs a r' s' → r ≡ r'
takes_any_one κs a r r' s s' = same_answer

-- coff

pub read_coff_one : (κs : _) (a : _) (r r' : _) (s s' : _) → read-coff.Post κs a r s → read-coff.Post κs a r' s' → told_by file_seen r ≡ told_by file_seen r'
read_coff_one κs a r r' s s' p q = same_handed headers_in (λ file. file.bytes.now) _ r r' p.0 q.0 p.1.1 q.1.1

pub bytes_of_one : (κs : _) (a : _) (r r' : _) (s s' : _) → bytes-of.Post κs a r s → bytes-of.Post κs a r' s' → r.now ≡ r'.now
bytes_of_one κs a r r' s s' = same_answer

-- image

pub span_one : (κs : _) (a : _) (r r' : _) (s s' : _) → span.Post κs a r s → span.Post κs a r' s' → r ≡ r'
span_one κs a r r' s s' = same_answer

pub is_no_order_one : (κs : _) (a : _) (r r' : _) (s s' : _) → is-no-order.Post κs a r s → is-no-order.Post κs a r' s' → r ≡ r'
is_no_order_one κs a r r' s s' = same_answer

pub turns_numbers_one : (κs : _) (a : _) (r r' : _) (s s' : _) → turns-numbers.Post κs a r s → turns-numbers.Post κs a r' s' → r ≡ r'
turns_numbers_one κs a r r' s s' = same_answer

pub turns_data_one : (κs : _) (a : _) (r r' : _) (s s' : _) → turns-data.Post κs a r s → turns-data.Post κs a r' s' → r ≡ r'
turns_data_one κs a r r' s s' = same_answer

pub place_in_one : (κs : _) (a : _) (r r' : _) (s s' : _) → place-in.Post κs a r s → place-in.Post κs a r' s' → r ≡ r'
place_in_one κs a r r' s s' = same_answer

pub copy_bytes_one : (κs : _) (a : _) (r r' : _) (s s' : _) → copy-bytes.Post κs a r s → copy-bytes.Post κs a r' s' → s.0.now ≡ s'.0.now
copy_bytes_one κs a r r' s s' = same_answer

pub convert_one : (κs : _) (a : _) (r r' : _) (s s' : _) → convert.Post κs a r s → convert.Post κs a r' s' → (r ≡ r') × (s.1.0.now ≡ s'.1.0.now)
convert_one κs a r r' s s' p q = (one_result r r' (same_answer p.0 q.0), same_answer p.1.1 q.1.1)

pub read_image_one : (κs : _) (a : _) (r r' : _) (s s' : _) → read-image.Post κs a r s → read-image.Post κs a r' s' → told_by image_seen r ≡ told_by image_seen r'
read_image_one κs a r r' s s' p q = same_handed contents_in (λ image. (image.bytes.now, image.order)) _ r r' p.0 q.0 (parts_if_ok (λ image. image.bytes.now) (λ image. image.order) _ _ r p.1.1) (parts_if_ok (λ image. image.bytes.now) (λ image. image.order) _ _ r' q.1.1)

pub read_in_one : (κs : _) (a : _) (r r' : _) (s s' : _) → read-in.Post κs a r s → read-in.Post κs a r' s' → r ≡ r'
read_in_one κs a r r' s s' p q = one_result r r' (same_answer p.0 q.0)

pub ask_one : (κs : _) (a : _) (r r' : _) (s s' : _) → ask.Post κs a r s → ask.Post κs a r' s' → r ≡ r'
ask_one κs a r r' s s' p q = one_result r r' (same_answer p.0 q.0)

pub stands_at_one : (κs : _) (a : _) (r r' : _) (s s' : _) → stands-at.Post κs a r s → stands-at.Post κs a r' s' → r ≡ r'
stands_at_one κs a r r' s s' p q = one_result r r' (same_answer p.0 q.0)

pub measure_file_one : (κs : _) (a : _) (r r' : _) (s s' : _) → measure-file.Post κs a r s → measure-file.Post κs a r' s' → r ≡ r'
measure_file_one κs a r r' s s' p q = one_result r r' (same_answer p.0 q.0)

-- loader

pub load_image_one : (κs : _) (a : _) (r r' : _) (s s' : _) → load-image.Post κs a r s → load-image.Post κs a r' s' → (r ≡ r') × (s.1.1.0.now ≡ s'.1.1.0.now)
load_image_one κs a r r' s s' p q = (one_result r r' (same_answer p.0 q.0), same_answer p.1.1 q.1.1)

pub load_coff_one : (κs : _) (a : _) (r r' : _) (s s' : _) → load-coff.Post κs a r s → load-coff.Post κs a r' s' → (r ≡ r') × (s.1.1.0.now ≡ s'.1.1.0.now)
load_coff_one κs a r r' s s' p q = (one_result r r' (same_answer p.0 q.0), same_answer p.1.1 q.1.1)

-- compare

pub check_one : (κs : _) (a : _) (r r' : _) (s s' : _) → check.Post κs a r s → check.Post κs a r' s' → r ≡ r'
check_one κs a r r' s s' p q = one_result r r' (same_answer p.0 q.0)

-- lines

pub list_one : (κs : _) (a : _) (r r' : _) (s s' : _) → list.Post κs a r s → list.Post κs a r' s' → (r ≡ r') × (s.1.0.now ≡ s'.1.0.now)
list_one κs a r r' s s' p q = (one_result r r' (same_answer p.0 q.0), same_answer p.1.1 q.1.1)

-- scanboot

pub scanboot_version_one : (κs : _) (a : _) (r r' : _) (s s' : _) → scanboot-version.Post κs a r s → scanboot-version.Post κs a r' s' → r ≡ r'
scanboot_version_one κs a r r' s s' = same_answer

pub scanboot_measure_one : (κs : _) (a : _) (r r' : _) (s s' : _) → scanboot-measure.Post κs a r s → scanboot-measure.Post κs a r' s' → r ≡ r'
scanboot_measure_one κs a r r' s s' = same_answer

pub scanboot_convert_one : (κs : _) (a : _) (r r' : _) (s s' : _) → scanboot-convert.Post κs a r s → scanboot-convert.Post κs a r' s' → (r ≡ r') × (s.1.0.now ≡ s'.1.0.now)
scanboot_convert_one κs a r r' s s' = same_outcome

pub scanboot_list_one : (κs : _) (a : _) (r r' : _) (s s' : _) → scanboot-list.Post κs a r s → scanboot-list.Post κs a r' s' → (r ≡ r') × (s.1.0.now ≡ s'.1.0.now)
scanboot_list_one κs a r r' s s' = same_outcome

pub scanboot_read_image_one : (κs : _) (a : _) (r r' : _) (s s' : _) → scanboot-read-image.Post κs a r s → scanboot-read-image.Post κs a r' s' → r ≡ r'
scanboot_read_image_one κs a r r' s s' = same_answer

pub scanboot_block_one : (κs : _) (a : _) (r r' : _) (s s' : _) → scanboot-block.Post κs a r s → scanboot-block.Post κs a r' s' → r ≡ r'
scanboot_block_one κs a r r' s s' = same_answer

pub scanboot_block_addresses_one : (κs : _) (a : _) (r r' : _) (s s' : _) → scanboot-block-addresses.Post κs a r s → scanboot-block-addresses.Post κs a r' s' → r ≡ r'
scanboot_block_addresses_one κs a r r' s s' = same_answer

pub scanboot_block_at_one : (κs : _) (a : _) (r r' : _) (s s' : _) → scanboot-block-at.Post κs a r s → scanboot-block-at.Post κs a r' s' → r ≡ r'
scanboot_block_at_one κs a r r' s s' = same_answer

pub scanboot_block_addresses_at_one : (κs : _) (a : _) (r r' : _) (s s' : _) → scanboot-block-addresses-at.Post κs a r s → scanboot-block-addresses-at.Post κs a r' s' → r ≡ r'
scanboot_block_addresses_at_one κs a r r' s s' = same_answer

pub scanboot_load_image_one : (κs : _) (a : _) (r r' : _) (s s' : _) → scanboot-load-image.Post κs a r s → scanboot-load-image.Post κs a r' s' → (r ≡ r') × (s.1.1.0.now ≡ s'.1.1.0.now)
scanboot_load_image_one κs a r r' s s' = same_outcome

pub scanboot_load_coff_one : (κs : _) (a : _) (r r' : _) (s s' : _) → scanboot-load-coff.Post κs a r s → scanboot-load-coff.Post κs a r' s' → (r ≡ r') × (s.1.1.0.now ≡ s'.1.1.0.now)
scanboot_load_coff_one κs a r r' s s' = same_outcome

pub scanboot_check_one : (κs : _) (a : _) (r r' : _) (s s' : _) → scanboot-check.Post κs a r s → scanboot-check.Post κs a r' s' → r ≡ r'
scanboot_check_one κs a r r' s s' = same_answer

pub scanboot_measure_with_one : (κs : _) (a : _) (r r' : _) (s s' : _) → scanboot-measure-with.Post κs a r s → scanboot-measure-with.Post κs a r' s' → r ≡ r'
scanboot_measure_with_one κs a r r' s s' = same_answer

pub scanboot_convert_with_one : (κs : _) (a : _) (r r' : _) (s s' : _) → scanboot-convert-with.Post κs a r s → scanboot-convert-with.Post κs a r' s' → (r ≡ r') × (s.1.0.now ≡ s'.1.0.now)
scanboot_convert_with_one κs a r r' s s' = same_outcome

pub scanboot_load_coff_with_one : (κs : _) (a : _) (r r' : _) (s s' : _) → scanboot-load-coff-with.Post κs a r s → scanboot-load-coff-with.Post κs a r' s' → (r ≡ r') × (s.1.1.0.now ≡ s'.1.1.0.now)
scanboot_load_coff_with_one κs a r r' s s' = same_outcome

pub scanboot_check_with_one : (κs : _) (a : _) (r r' : _) (s s' : _) → scanboot-check-with.Post κs a r s → scanboot-check-with.Post κs a r' s' → r ≡ r'
scanboot_check_with_one κs a r r' s s' = same_answer

pub scanboot_read_image_with_one : (κs : _) (a : _) (r r' : _) (s s' : _) → scanboot-read-image-with.Post κs a r s → scanboot-read-image-with.Post κs a r' s' → r ≡ r'
scanboot_read_image_with_one κs a r r' s s' = same_answer

pub scanboot_block_with_one : (κs : _) (a : _) (r r' : _) (s s' : _) → scanboot-block-with.Post κs a r s → scanboot-block-with.Post κs a r' s' → r ≡ r'
scanboot_block_with_one κs a r r' s s' = same_answer

pub scanboot_block_addresses_with_one : (κs : _) (a : _) (r r' : _) (s s' : _) → scanboot-block-addresses-with.Post κs a r s → scanboot-block-addresses-with.Post κs a r' s' → r ≡ r'
scanboot_block_addresses_with_one κs a r r' s s' = same_answer

pub scanboot_block_at_with_one : (κs : _) (a : _) (r r' : _) (s s' : _) → scanboot-block-at-with.Post κs a r s → scanboot-block-at-with.Post κs a r' s' → r ≡ r'
scanboot_block_at_with_one κs a r r' s s' = same_answer

pub scanboot_block_addresses_at_with_one : (κs : _) (a : _) (r r' : _) (s s' : _) → scanboot-block-addresses-at-with.Post κs a r s → scanboot-block-addresses-at-with.Post κs a r' s' → r ≡ r'
scanboot_block_addresses_at_with_one κs a r r' s s' = same_answer

pub scanboot_load_image_with_one : (κs : _) (a : _) (r r' : _) (s s' : _) → scanboot-load-image-with.Post κs a r s → scanboot-load-image-with.Post κs a r' s' → (r ≡ r') × (s.1.1.0.now ≡ s'.1.1.0.now)
scanboot_load_image_with_one κs a r r' s s' = same_outcome

pub scanboot_takes_one : (κs : _) (a : _) (r r' : _) (s s' : _) → scanboot-takes.Post κs a r s → scanboot-takes.Post κs a r' s' → r ≡ r'
scanboot_takes_one κs a r r' s s' = same_answer

-- Answers with several fields, each of which is fixed.

pub row_first_one : (κs : _) (a : _) (r r' : _) (s s' : _) → row_first.Post κs a r s → row_first.Post κs a r' s' → r ≡ r'
row_first_one κs a r r' s s' p q =
    let place = same_answer p.place q.place in
    let number = same_answer p.number q.number in
    λ i. record { at = place i; number = number i }

pub range_at_one : (κs : _) (a : _) (r r' : _) (s s' : _) → range_at.Post κs a r s → range_at.Post κs a r' s' → r ≡ r'
range_at_one κs a r r' s s' p q =
    let first = same_answer p.begins q.begins in
    let last : r.span.last ≡ r'.span.last = omega (arith, p.ends, q.ends) in
    let next = same_answer p.next q.next in
    let number = same_answer p.one_on q.one_on in
    λ i. record { span = record { first = first i; last = last i }; next = record { at = next i; number = number i } }

pub first_one : (κs : _) (a : _) (r r' : _) (s s' : _) → first.Post κs a r s → first.Post κs a r' s' → r ≡ r'
first_one κs a r r' s s' p q =
    let place = same_answer p.place q.place in
    let number = same_answer p.number q.number in
    λ i. record { at = place i; number = number i }

pub part_at_one : (κs : _) (a : _) (r r' : _) (s s' : _) → part_at.Post κs a r s → part_at.Post κs a r' s' → r ≡ r'
part_at_one κs a r r' s s' = one_part _ _ _ r r'

pub measure_one : (κs : _) (a : _) (r r' : _) (s s' : _) → measure.Post κs a r s → measure.Post κs a r' s' → r ≡ r'
measure_one κs a r r' s s' p q =
    let length = same_answer p.0 q.0 in
    let kept = same_answer p.1 q.1 in
    λ i. record { length = length i; kept = kept i }

pub header_at_one : (κs : _) (a : _) (r r' : _) (s s' : _) → header_at.Post κs a r s → header_at.Post κs a r' s' → r ≡ r'
header_at_one κs a r r' s s' p q =
    let size = same_answer p.size q.size in
    let load = same_answer p.load q.load in
    let run = same_answer p.run q.run in
    let raw = same_answer p.raw q.raw in
    let next : r.next.at ≡ r'.next.at = rw (p.next, size) (sym q.next) in
    let number = same_answer p.one_on q.one_on in
    λ i. record { part = record { size = size i; load = record { 0 = load i }; run = record { 0 = run i }; raw = record { 0 = raw i } }; next = record { at = next i; number = number i } }

one_header : (order : ℕ) (s : List ℕ) (c : Cursor) (r r' : BlockHeader) → TellsIn order s c r → TellsIn order s c r' → r ≡ r'
one_header order s c r r' p q =
    let t = p.tells in
    let u = q.tells in
    let size = same_answer t.size u.size in
    let load = same_answer t.load u.load in
    let run = same_answer t.run u.run in
    let raw = same_answer t.raw u.raw in
    let number = same_answer t.one_on u.one_on in
    let next : r.next.at ≡ r'.next.at = rw (t.next.place, number) (sym u.next.place) in
    λ i. record { part = record { size = size i; load = record { 0 = load i }; run = record { 0 = run i }; raw = record { 0 = raw i } }; next = record { at = next i; number = number i } }

pub block_at_one : (κs : _) (a : _) (r r' : _) (s s' : _) → block_at.Post κs a r s → block_at.Post κs a r' s' → r ≡ r'
block_at_one κs a r r' s s' = one_header _ _ _ r r'

pub image_block_at_one : (κs : _) (a : _) (r r' : _) (s s' : _) → image-block-at.Post κs a r s → image-block-at.Post κs a r' s' → r ≡ r'
image_block_at_one κs a r r' s s' = one_header _ _ _ r r'

pub put_output_one : (κs : _) (a : _) (r r' : _) (s s' : _) → put-output.Post κs a r s → put-output.Post κs a r' s' → (r ≡ r') × (s.0.now ≡ s'.0.now)
put_output_one κs a r r' s s' p q =
    let stream = same_answer p.goes q.goes in
    let length = same_answer p.answers q.answers in
    (λ i. record { stream = stream i; length = length i }, same_answer p.holds q.holds)
