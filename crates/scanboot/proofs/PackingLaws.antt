-- What is packed of each kind of answer: the index of a refusal has its bits to itself, and so have the figures of a success.
use Prim.Native.Nat.{ℕ, ◌+◌, ◌*◌, ◌^◌}
use mathlib.Core.Path.{◌≡◌, refl}
use native.Mathlib.Omega.{arith}
use Rattle.fields.specs.Rules.{refused, done}
use Rattle.fields.specs.declared.Part.{Part}
use Rattle.image.specs.declared.Contents.{Contents}
use Rattle.image.specs.declared.Figures.{Figures}
use Rattle.image.specs.Converting.{numbers_of_conversion}
use Rattle.image.specs.Reading.{numbers_of_reading}
use Rattle.image.specs.Asking.{numbers_of_asked}
use Rattle.loader.specs.Loading.{numbers_of_loading}
use Rattle.compare.specs.Checking.{numbers_of_verdict}
use Rattle.lines.specs.Listing.{numbers_of_listing}
use Rattle.scanboot.specs.Packing.{packed_refusal, packed_conversion, packed_reading, packed_asked, packed_addresses, packed_loading, packed_verdict, packed_listing}

module _ (code index : ℕ) where
  pub conversion_refused : packed_conversion (numbers_of_conversion (refused code index)) ≡ packed_refusal code index
  unfolding packed_conversion numbers_of_conversion
  conversion_refused = omega arith

  pub reading_refused : packed_reading (numbers_of_reading (refused code index)) ≡ packed_refusal code index
  unfolding packed_reading numbers_of_reading
  reading_refused = omega arith

  pub asked_refused : packed_asked (numbers_of_asked (refused code index)) ≡ packed_refusal code index
  unfolding packed_asked numbers_of_asked
  asked_refused = omega arith

  pub addresses_refused : packed_addresses (numbers_of_asked (refused code index)) ≡ 0
  unfolding packed_addresses numbers_of_asked
  addresses_refused = omega arith

  pub loading_refused : packed_loading (numbers_of_loading (refused code index)) ≡ packed_refusal code index
  unfolding packed_loading numbers_of_loading
  loading_refused = omega arith

  pub verdict_refused : packed_verdict (numbers_of_verdict (refused code index)) ≡ packed_refusal code index
  unfolding packed_verdict numbers_of_verdict
  verdict_refused = refl

  pub listing_refused : packed_listing (numbers_of_listing (refused code index)) ≡ packed_refusal code index
  unfolding packed_listing numbers_of_listing
  listing_refused = omega arith

pub conversion_made : (made : Figures) → packed_conversion (numbers_of_conversion (done made)) ≡ 2 ^ 8 * made.length + 2 ^ 40 * made.kept
unfolding packed_conversion packed_refusal numbers_of_conversion
conversion_made made = omega arith

pub reading_image : (c : Contents) → packed_reading (numbers_of_reading (done c)) ≡ 2 ^ 8 * c.entry + 2 ^ 40 * c.blocks
unfolding packed_reading packed_refusal numbers_of_reading
reading_image c = omega arith

module _ (p : Part) where
  pub asked_found : packed_asked (numbers_of_asked (done p)) ≡ 2 ^ 8 * p.raw.0 + 2 ^ 36 * p.size
  unfolding packed_asked packed_refusal numbers_of_asked
  asked_found = omega arith

  pub addresses_found : packed_addresses (numbers_of_asked (done p)) ≡ p.load.0 + 2 ^ 32 * p.run.0
  unfolding packed_addresses numbers_of_asked
  addresses_found = refl

pub loading_placed : (bytes : ℕ) → packed_loading (numbers_of_loading (done bytes)) ≡ 2 ^ 8 * bytes
unfolding packed_loading packed_refusal numbers_of_loading
loading_placed bytes = omega arith

pub verdict_same : packed_verdict (numbers_of_verdict (done tt)) ≡ 0
unfolding packed_verdict packed_refusal numbers_of_verdict
verdict_same = refl

pub listing_listed : (size : ℕ) → packed_listing (numbers_of_listing (done size)) ≡ 2 ^ 8 * size
unfolding packed_listing packed_refusal numbers_of_listing
listing_listed size = omega arith
