-- C gets back every number of every answer: each is small, and so comes out as it was packed.
use Prim.Native.Nat.{ℕ}
use mathlib.Core.Path.{◌≡◌}
use mathlib.Core.List.{List}
use Rattle.fields.specs.Number.{Bytes}
use Rattle.fields.specs.Options.{Options}
use Rattle.image.specs.Reading.{reading_in, reading_of, numbers_of_reading}
use Rattle.image.specs.Asking.{asking_in, asked_of, numbers_of_asked}
use Rattle.image.specs.Standing.{standing_in}
use Rattle.image.specs.Converting.{converting, measuring, conversion_of, numbers_of_conversion}
use Rattle.loader.specs.Loading.{loading_image, loading_coff, loading_of, numbers_of_loading}
use Rattle.compare.specs.Checking.{checking, numbers_of_verdict}
use Rattle.lines.specs.Listing.{listing, listed_of, numbers_of_listing}
use Rattle.scanboot.specs.Packing.{packed_conversion, packed_reading, packed_asked, packed_addresses, packed_loading, packed_verdict, packed_listing}
use Rattle.scanboot.proofs.AnswerLaws.{conversion_small, measured_small, reading_small, asked_small, standing_small, load_image_small, load_coff_small, verdict_small, listing_small}
use Rattle.demands.specs.Unpacking.{unpacked_conversion, unpacked_reading, unpacked_asked, unpacked_loading, unpacked_verdict, unpacked_listing}
use Rattle.demands.proofs.UnpackingLaws.{unpack_conversion, unpack_reading, unpack_asked, unpack_loading, unpack_verdict, unpack_listing}

pub conversion_unpacks : (o : Options) (f : List ℕ) (room : ℕ) → unpacked_conversion (packed_conversion (numbers_of_conversion (conversion_of (converting o f room)))) ≡ numbers_of_conversion (conversion_of (converting o f room))
conversion_unpacks o f room = unpack_conversion (conversion_of (converting o f room)) (conversion_small o f room)

pub measured_unpacks : (o : Options) (f : List ℕ) → unpacked_conversion (packed_conversion (numbers_of_conversion (conversion_of (measuring o f)))) ≡ numbers_of_conversion (conversion_of (measuring o f))
measured_unpacks o f = unpack_conversion (conversion_of (measuring o f)) (measured_small o f)

pub reading_unpacks : (o : Options) (s : List ℕ) → Bytes s → unpacked_reading (packed_reading (numbers_of_reading (reading_of (reading_in o s)))) ≡ numbers_of_reading (reading_of (reading_in o s))
reading_unpacks o s b = unpack_reading (reading_of (reading_in o s)) (reading_small o s b)

pub asked_unpacks : (o : Options) (s : List ℕ) (k : ℕ) → unpacked_asked (packed_asked (numbers_of_asked (asked_of (asking_in o s k)))) (packed_addresses (numbers_of_asked (asked_of (asking_in o s k)))) ≡ numbers_of_asked (asked_of (asking_in o s k))
asked_unpacks o s k = unpack_asked (asked_of (asking_in o s k)) (asked_small o s k)

pub standing_unpacks : (o : Options) (s : List ℕ) (place : ℕ) → Bytes s → unpacked_asked (packed_asked (numbers_of_asked (asked_of (standing_in o s place)))) (packed_addresses (numbers_of_asked (asked_of (standing_in o s place)))) ≡ numbers_of_asked (asked_of (standing_in o s place))
standing_unpacks o s place b = unpack_asked (asked_of (standing_in o s place)) (standing_small o s place b)

pub load_image_unpacks : (o : Options) (image : List ℕ) (base room : ℕ) → unpacked_loading (packed_loading (numbers_of_loading (loading_of (loading_image o image base room)))) ≡ numbers_of_loading (loading_of (loading_image o image base room))
load_image_unpacks o image base room = unpack_loading (loading_of (loading_image o image base room)) (load_image_small o image base room)

pub load_coff_unpacks : (o : Options) (file : List ℕ) (base room : ℕ) → unpacked_loading (packed_loading (numbers_of_loading (loading_of (loading_coff o file base room)))) ≡ numbers_of_loading (loading_of (loading_coff o file base room))
load_coff_unpacks o file base room = unpack_loading (loading_of (loading_coff o file base room)) (load_coff_small o file base room)

pub verdict_unpacks : (o : Options) (file image : List ℕ) → unpacked_verdict (packed_verdict (numbers_of_verdict (checking o file image))) ≡ numbers_of_verdict (checking o file image)
verdict_unpacks o file image = unpack_verdict (checking o file image) (verdict_small o file image)

pub listing_unpacks : (f : List ℕ) (room : ℕ) → unpacked_listing (packed_listing (numbers_of_listing (listed_of (listing f room)))) ≡ numbers_of_listing (listed_of (listing f room))
listing_unpacks f room = unpack_listing (listed_of (listing f room)) (listing_small f room)
