-- What was packed comes out as it went in: each number has bits of its own, and is small enough for them.
use Prim.Native.Nat.{ℕ, ◌+◌, ◌*◌, ◌^◌, ◌<◌}
use mathlib.Core.Path.{◌≡◌, refl}
use mathlib.Core.Bool.{false}
use native.Mathlib.Omega.{arith}
use lib.Dec.{eqb}
use borrow.Author.Tests.{ne_eqb}
use Rattle.fields.specs.Rules.{Outcome, refused, done}
use Rattle.fields.specs.declared.Part.{Part}
use Rattle.image.specs.declared.Figures.{Figures}
use Rattle.image.specs.declared.Contents.{Contents}
use Rattle.image.specs.Converting.{numbers_of_conversion}
use Rattle.image.specs.Reading.{numbers_of_reading}
use Rattle.image.specs.Asking.{numbers_of_asked}
use Rattle.loader.specs.Loading.{numbers_of_loading}
use Rattle.compare.specs.Checking.{numbers_of_verdict}
use Rattle.lines.specs.Listing.{numbers_of_listing}
use Rattle.scanboot.specs.Bounds.{SmallRefusal, SmallConversion, SmallReading, SmallAsked, SmallLoading, SmallVerdict, SmallListing}
use Rattle.scanboot.specs.Packing.{packed_refusal, packed_conversion, packed_reading, packed_asked, packed_addresses, packed_loading, packed_verdict, packed_listing}
use Rattle.scanboot.proofs.PackingLaws.{conversion_refused, conversion_made, reading_refused, reading_image, asked_refused, addresses_refused, asked_found, addresses_found, loading_refused, loading_placed, verdict_refused, verdict_same, listing_refused, listing_listed}
use Rattle.demands.specs.Unpacking.{bits_of, code_of, index_of, figure_of, unpacked_conversion, unpacked_reading, unpacked_asked, unpacked_loading, unpacked_verdict, unpacked_listing}

-- A refusal: its code, its index, and no figure.
module _ (code index : ℕ) (small : SmallRefusal code index) where
  code_refused : code_of (packed_refusal code index) ≡ code
  unfolding code_of bits_of packed_refusal
  code_refused = omega arith

  not_done : eqb (code_of (packed_refusal code index)) 0 ≡ false
  not_done = rw code_refused (ne_eqb code 0 (omega arith))

  index_refused : index_of (packed_refusal code index) ≡ index
  unfolding index_of bits_of
  index_refused = rw not_done (unfold packed_refusal in omega arith)

  figure_refused : (low width : ℕ) → figure_of low width (packed_refusal code index) ≡ 0
  unfolding figure_of
  figure_refused low width = rw not_done

-- A success: its low byte is 0, so the index is 0 and each figure is what stands at its bits.
module _ (packed : ℕ) (success : code_of packed ≡ 0) where
  index_done : index_of packed ≡ 0
  unfolding index_of
  index_done = rw success

  figure_done : (low width : ℕ) → figure_of low width packed ≡ bits_of low width packed
  unfolding figure_of
  figure_done low width = rw success

-- Figures at the bits where they are put.
figures_32_24 : (a b : ℕ) → a < 2 ^ 32 → b < 2 ^ 24 → (code_of (2 ^ 8 * a + 2 ^ 40 * b) ≡ 0) × (bits_of 8 32 (2 ^ 8 * a + 2 ^ 40 * b) ≡ a) × (bits_of 40 24 (2 ^ 8 * a + 2 ^ 40 * b) ≡ b)
unfolding code_of bits_of
figures_32_24 a b h k = omega arith

figures_28_28 : (a b : ℕ) → a < 2 ^ 28 → b < 2 ^ 28 → (code_of (2 ^ 8 * a + 2 ^ 36 * b) ≡ 0) × (bits_of 8 28 (2 ^ 8 * a + 2 ^ 36 * b) ≡ a) × (bits_of 36 28 (2 ^ 8 * a + 2 ^ 36 * b) ≡ b)
unfolding code_of bits_of
figures_28_28 a b h k = omega arith

figure_56 : (a : ℕ) → a < 2 ^ 56 → (code_of (2 ^ 8 * a) ≡ 0) × (bits_of 8 56 (2 ^ 8 * a) ≡ a)
unfolding code_of bits_of
figure_56 a h = omega arith

addresses_32_32 : (a b : ℕ) → a < 2 ^ 32 → b < 2 ^ 32 → (bits_of 0 32 (a + 2 ^ 32 * b) ≡ a) × (bits_of 32 32 (a + 2 ^ 32 * b) ≡ b)
unfolding bits_of
addresses_32_32 a b h k = omega arith

no_code : code_of 0 ≡ 0
unfolding code_of bits_of
no_code = refl

no_addresses : (bits_of 0 32 0 ≡ 0) × (bits_of 32 32 0 ≡ 0)
unfolding bits_of
no_addresses = (refl, refl)

-- Each answer's numbers.
pub unpack_conversion : (c : Outcome Figures) → SmallConversion c → unpacked_conversion (packed_conversion (numbers_of_conversion c)) ≡ numbers_of_conversion c
unfolding unpacked_conversion
unpack_conversion (refused code index) h =
    rw (conversion_refused code index)
    (unfold numbers_of_conversion in rw (code_refused code index h, index_refused code index h, figure_refused code index h 8 32, figure_refused code index h 40 24))
unpack_conversion (done made) h =
    let e = figures_32_24 made.length made.kept (omega arith) (omega arith) in
    let p = 2 ^ 8 * made.length + 2 ^ 40 * made.kept in
    rw (conversion_made made)
    (unfold numbers_of_conversion in rw (e.0, index_done p e.0, figure_done p e.0 8 32, figure_done p e.0 40 24, e.1, e.2))

pub unpack_reading : (r : Outcome Contents) → SmallReading r → unpacked_reading (packed_reading (numbers_of_reading r)) ≡ numbers_of_reading r
unfolding unpacked_reading
unpack_reading (refused code index) h =
    rw (reading_refused code index)
    (unfold numbers_of_reading in rw (code_refused code index h, index_refused code index h, figure_refused code index h 8 32, figure_refused code index h 40 24))
unpack_reading (done c) h =
    let e = figures_32_24 c.entry c.blocks (omega arith) (omega arith) in
    let p = 2 ^ 8 * c.entry + 2 ^ 40 * c.blocks in
    rw (reading_image c)
    (unfold numbers_of_reading in rw (e.0, index_done p e.0, figure_done p e.0 8 32, figure_done p e.0 40 24, e.1, e.2))

pub unpack_asked : (a : Outcome Part) → SmallAsked a → unpacked_asked (packed_asked (numbers_of_asked a)) (packed_addresses (numbers_of_asked a)) ≡ numbers_of_asked a
unfolding unpacked_asked
unpack_asked (refused code index) h =
    rw (asked_refused code index, addresses_refused code index)
    (unfold numbers_of_asked in rw (code_refused code index h, index_refused code index h, figure_refused code index h 36 28, figure_refused code index h 8 28, no_addresses.0, no_addresses.1))
unpack_asked (done b) h =
    let e = figures_28_28 b.raw.0 b.size (omega arith) (omega arith) in
    let a = addresses_32_32 b.load.0 b.run.0 h.1 h.2 in
    let p = 2 ^ 8 * b.raw.0 + 2 ^ 36 * b.size in
    rw (asked_found b, addresses_found b)
    (unfold numbers_of_asked in rw (e.0, index_done p e.0, figure_done p e.0 36 28, figure_done p e.0 8 28, e.1, e.2, a.0, a.1))

pub unpack_loading : (l : Outcome ℕ) → SmallLoading l → unpacked_loading (packed_loading (numbers_of_loading l)) ≡ numbers_of_loading l
unfolding unpacked_loading
unpack_loading (refused code index) h =
    rw (loading_refused code index)
    (unfold numbers_of_loading in rw (code_refused code index h, index_refused code index h, figure_refused code index h 8 56))
unpack_loading (done bytes) h =
    let e = figure_56 bytes (omega arith) in
    rw (loading_placed bytes)
    (unfold numbers_of_loading in rw (e.0, index_done (2 ^ 8 * bytes) e.0, figure_done (2 ^ 8 * bytes) e.0 8 56, e.1))

pub unpack_verdict : (v : Outcome (Unit {0})) → SmallVerdict v → unpacked_verdict (packed_verdict (numbers_of_verdict v)) ≡ numbers_of_verdict v
unfolding unpacked_verdict
unpack_verdict (refused code index) h =
    rw (verdict_refused code index) (unfold numbers_of_verdict in rw (code_refused code index h, index_refused code index h))
unpack_verdict (done u) h = rw verdict_same (unfold numbers_of_verdict in rw (no_code, index_done 0 no_code))

pub unpack_listing : (l : Outcome ℕ) → SmallListing l → unpacked_listing (packed_listing (numbers_of_listing l)) ≡ numbers_of_listing l
unfolding unpacked_listing
unpack_listing (refused code index) h =
    rw (listing_refused code index)
    (unfold numbers_of_listing in rw (code_refused code index h, index_refused code index h, figure_refused code index h 8 56))
unpack_listing (done size) h =
    let e = figure_56 size (omega arith) in
    rw (listing_listed size)
    (unfold numbers_of_listing in rw (e.0, index_done (2 ^ 8 * size) e.0, figure_done (2 ^ 8 * size) e.0 8 56, e.1))
