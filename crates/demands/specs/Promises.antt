-- What the nine functions beneath C's calls promise of what their answer tells, r, and, where a buffer is lent, of what it holds afterwards; and what C's calls do: the words of the
-- theorems here. All but the listing are said with options: a row of patterns and an order of the image, or, where a call has neither, `plain`. That these are the promises in the code
-- is in proofs/Promised.antt.
use Rattle.std.specs.Prelude.{ℕ, ◌≡◌, List, length}
use Rattle.fields.specs.Rules.{Outcome}
use Rattle.fields.specs.Options.{Options}
use Rattle.fields.specs.Answer.{Answer}
use Rattle.fields.specs.Program.{Block}
use Rattle.fields.specs.declared.Part.{Part}
use Rattle.image.specs.Converting.{converting, measuring, conversion_numbers, conversion_of, numbers_of_conversion, output_after}
use Rattle.image.specs.Reading.{reading_in, reading_numbers, reading_of, numbers_of_reading}
use Rattle.image.specs.Asking.{asking_in, asked_numbers, asked_of, numbers_of_asked}
use Rattle.image.specs.Standing.{standing_in}
use Rattle.image.specs.declared.Figures.{Figures}
use Rattle.image.specs.declared.Contents.{Contents}
use Rattle.loader.specs.Loading.{loading_image, loading_coff, loading_numbers, loading_of, numbers_of_loading, window_after}
use Rattle.compare.specs.Checking.{checking, check_numbers, numbers_of_verdict}
use Rattle.lines.specs.Listing.{listing, listing_numbers, listed_of, numbers_of_listing, buffer_after}
use Rattle.scanboot.specs.Packing.{packed_conversion, packed_reading, packed_asked, packed_addresses, packed_loading, packed_verdict, packed_listing}
use Rattle.scanboot.specs.Taken.{taken_number}

abbrev pub Converts : Options → List ℕ → List ℕ → Outcome Figures → List ℕ → Type 0
Converts o file out r after =
    (r ≡ conversion_of (converting o file (length out)))
    × ((numbers_of_conversion r ≡ conversion_numbers (converting o file (length out)))
    × (after ≡ output_after o.order (converting o file (length out)) out))

abbrev pub Measures : Options → List ℕ → Outcome Figures → Type 0
Measures o file r = (r ≡ conversion_of (measuring o file)) × (numbers_of_conversion r ≡ conversion_numbers (measuring o file))

abbrev pub Reads : Options → List ℕ → Outcome Contents → Type 0
Reads o image r = (r ≡ reading_of (reading_in o image)) × (numbers_of_reading r ≡ reading_numbers (reading_in o image))

abbrev pub Asks : Options → List ℕ → ℕ → Outcome Part → Type 0
Asks o image number r = (r ≡ asked_of (asking_in o image number)) × (numbers_of_asked r ≡ asked_numbers (asking_in o image number))

-- by its place instead of its number
abbrev pub Stands : Options → List ℕ → ℕ → Outcome Part → Type 0
Stands o image place r = (r ≡ asked_of (standing_in o image place)) × (numbers_of_asked r ≡ asked_numbers (standing_in o image place))

-- of either kind of input, by what its loading comes to
abbrev pub Loads : (List ℕ → ℕ → ℕ → Outcome (List Block)) → List ℕ → ℕ → List ℕ → Outcome ℕ → List ℕ → Type 0
Loads loading input base window r after =
    (r ≡ loading_of (loading input base (length window)))
    × ((numbers_of_loading r ≡ loading_numbers (loading input base (length window)))
    × (after ≡ window_after (loading input base (length window)) base window))

abbrev pub LoadsImage : Options → List ℕ → ℕ → List ℕ → Outcome ℕ → List ℕ → Type 0
LoadsImage o = Loads (loading_image o)

abbrev pub LoadsCoff : Options → List ℕ → ℕ → List ℕ → Outcome ℕ → List ℕ → Type 0
LoadsCoff o = Loads (loading_coff o)

abbrev pub Checks : Options → List ℕ → List ℕ → Outcome (Unit {0}) → Type 0
Checks o file image r = (r ≡ checking o file image) × (numbers_of_verdict r ≡ check_numbers (checking o file image))

abbrev pub Lists : List ℕ → List ℕ → Outcome ℕ → List ℕ → Type 0
Lists file text r after =
    (r ≡ listed_of (listing file (length text)))
    × ((numbers_of_listing r ≡ listing_numbers (listing file (length text)))
    × (after ≡ buffer_after (listing file (length text)) text))

-- What C's calls promise of the one number r that they answer, and of a lent buffer. Measuring and converting a file:
abbrev pub GivesMeasure : Options → List ℕ → ℕ → Type 0
GivesMeasure o file r = r ≡ packed_conversion (numbers_of_conversion (conversion_of (measuring o file)))

abbrev pub GivesConversion : Options → List ℕ → List ℕ → ℕ → List ℕ → Type 0
GivesConversion o file out r after =
    (r ≡ packed_conversion (numbers_of_conversion (conversion_of (converting o file (length out)))))
    × (after ≡ output_after o.order (converting o file (length out)) out)

-- reading an image, and asking for its block of a number
abbrev pub image_numbers : Options → List ℕ → Answer
image_numbers o image = numbers_of_reading (reading_of (reading_in o image))

abbrev pub GivesReading : Options → List ℕ → ℕ → Type 0
GivesReading o image r = r ≡ packed_reading (image_numbers o image)

abbrev pub block_numbers : Options → List ℕ → ℕ → Answer
block_numbers o image number = numbers_of_asked (asked_of (asking_in o image number))

abbrev pub GivesBlock : Options → List ℕ → ℕ → ℕ → Type 0
GivesBlock o image number r = r ≡ packed_asked (block_numbers o image number)

abbrev pub GivesAddresses : Options → List ℕ → ℕ → ℕ → Type 0
GivesAddresses o image number r = r ≡ packed_addresses (block_numbers o image number)

-- asking what stands at a place
abbrev pub place_numbers : Options → List ℕ → ℕ → Answer
place_numbers o image place = numbers_of_asked (asked_of (standing_in o image place))

abbrev pub GivesBlockAt : Options → List ℕ → ℕ → ℕ → Type 0
GivesBlockAt o image place r = r ≡ packed_asked (place_numbers o image place)

abbrev pub GivesAddressesAt : Options → List ℕ → ℕ → ℕ → Type 0
GivesAddressesAt o image place r = r ≡ packed_addresses (place_numbers o image place)

-- a load of either kind of input, by what it comes to
abbrev pub GivesLoading : (List ℕ → ℕ → ℕ → Outcome (List Block)) → List ℕ → ℕ → List ℕ → ℕ → List ℕ → Type 0
GivesLoading loading input base window r after =
    (r ≡ packed_loading (numbers_of_loading (loading_of (loading input base (length window)))))
    × (after ≡ window_after (loading input base (length window)) base window)

-- the check
abbrev pub GivesVerdict : Options → List ℕ → List ℕ → ℕ → Type 0
GivesVerdict o file image r = r ≡ packed_verdict (numbers_of_verdict (checking o file image))

-- listing a file, with what the lent buffer holds afterwards
abbrev pub GivesListing : List ℕ → List ℕ → ℕ → List ℕ → Type 0
GivesListing file text r after =
    (r ≡ packed_listing (numbers_of_listing (listed_of (listing file (length text)))))
    × (after ≡ buffer_after (listing file (length text)) text)

-- whether one pattern takes a name
abbrev pub GivesTaken : List ℕ → List ℕ → ℕ → Type 0
GivesTaken pattern name r = r ≡ taken_number pattern name
