-- The promises that the theorems here speak of are those of the functions, as the prover reads them in the code.
use mathlib.Core.Path.{◌≡◌, refl}
use Rattle.fields.specs.Options.{plain, in_order}
use Rattle.fields.specs.Refusal.{told}
use Rattle.patterns.specs.Row.{options_of}
use Rattle.image.proofs.converting.convert.Reads as convert
use Rattle.image.proofs.measuring.measure_file.Reads as measure-file
use Rattle.image.proofs.reader.read_in.Reads as read-in
use Rattle.image.proofs.asking.ask.Reads as ask
use Rattle.image.proofs.standing.stands_at.Reads as stands-at
use Rattle.loader.proofs.from_image.load_image.Reads as load-image
use Rattle.loader.proofs.from_coff.load_coff.Reads as load-coff
use Rattle.compare.proofs.checking.check.Reads as check
use Rattle.lines.proofs.listing.list.Reads as list
use Rattle.scanboot.proofs.scanboot_measure.Reads as scanboot-measure
use Rattle.scanboot.proofs.scanboot_block_at.Reads as scanboot-block-at
use Rattle.scanboot.proofs.scanboot_block_at_with.Reads as scanboot-block-at-with
use Rattle.scanboot.proofs.scanboot_block_addresses_at.Reads as scanboot-block-addresses-at
use Rattle.scanboot.proofs.scanboot_block_addresses_at_with.Reads as scanboot-block-addresses-at-with
use Rattle.scanboot.proofs.scanboot_read_image.Reads as scanboot-read-image
use Rattle.scanboot.proofs.scanboot_read_image_with.Reads as scanboot-read-image-with
use Rattle.scanboot.proofs.scanboot_block.Reads as scanboot-block
use Rattle.scanboot.proofs.scanboot_block_with.Reads as scanboot-block-with
use Rattle.scanboot.proofs.scanboot_block_addresses.Reads as scanboot-block-addresses
use Rattle.scanboot.proofs.scanboot_block_addresses_with.Reads as scanboot-block-addresses-with
use Rattle.scanboot.proofs.scanboot_check.Reads as scanboot-check
use Rattle.scanboot.proofs.scanboot_list.Reads as scanboot-list
use Rattle.scanboot.proofs.scanboot_convert.Reads as scanboot-convert
use Rattle.scanboot.proofs.scanboot_load_image.Reads as scanboot-load-image
use Rattle.scanboot.proofs.scanboot_load_image_with.Reads as scanboot-load-image-with
use Rattle.scanboot.proofs.scanboot_load_coff.Reads as scanboot-load-coff
use Rattle.scanboot.proofs.scanboot_measure_with.Reads as scanboot-measure-with
use Rattle.scanboot.proofs.scanboot_convert_with.Reads as scanboot-convert-with
use Rattle.scanboot.proofs.scanboot_load_coff_with.Reads as scanboot-load-coff-with
use Rattle.scanboot.proofs.scanboot_check_with.Reads as scanboot-check-with
use Rattle.scanboot.proofs.scanboot_takes.Reads as scanboot-takes
use Rattle.loader.specs.Loading.{loading_image, loading_coff}
use Rattle.demands.specs.Promises.{Converts, Measures, Reads, Asks, Stands, LoadsImage, LoadsCoff, Checks, Lists, GivesMeasure, GivesConversion, GivesReading, GivesBlock, GivesAddresses, GivesBlockAt, GivesAddressesAt, GivesLoading, GivesVerdict, GivesListing, GivesTaken}

-- `a` has what a call is handed, the row of patterns and then the order last; r is its answer, of which `told r` is what it tells, and `s` has each lent buffer afterwards

pub convert_promises : (κs : _) (a : _) (r : _) (s : _) → convert.Post κs a r s ≡ Converts (in_order a.1.1.1.0 (options_of a.1.1.0.now)) a.0.now a.1.0.now (told r) s.1.0.now
convert_promises κs a r s = refl

pub measure_file_promises : (κs : _) (a : _) (r : _) (s : _) → measure-file.Post κs a r s ≡ Measures (options_of a.1.0.now) a.0.now (told r)
measure_file_promises κs a r s = refl

pub read_in_promises : (κs : _) (a : _) (r : _) (s : _) → read-in.Post κs a r s ≡ Reads (in_order a.1.0 plain) a.0.now (told r)
read_in_promises κs a r s = refl

pub ask_promises : (κs : _) (a : _) (r : _) (s : _) → ask.Post κs a r s ≡ Asks (in_order a.1.1.0 plain) a.0.now a.1.0 (told r)
ask_promises κs a r s = refl

pub stands_at_promises : (κs : _) (a : _) (r : _) (s : _) → stands-at.Post κs a r s ≡ Stands (in_order a.1.1.0 plain) a.0.now a.1.0 (told r)
stands_at_promises κs a r s = refl

pub load_image_promises : (κs : _) (a : _) (r : _) (s : _) → load-image.Post κs a r s ≡ LoadsImage (in_order a.1.1.1.0 plain) a.0.now a.1.0 a.1.1.0.now (told r) s.1.1.0.now
load_image_promises κs a r s = refl

pub load_coff_promises : (κs : _) (a : _) (r : _) (s : _) → load-coff.Post κs a r s ≡ LoadsCoff (options_of a.1.1.1.0.now) a.0.now a.1.0 a.1.1.0.now (told r) s.1.1.0.now
load_coff_promises κs a r s = refl

pub check_promises : (κs : _) (a : _) (r : _) (s : _) → check.Post κs a r s ≡ Checks (in_order a.1.1.1.0 (options_of a.1.1.0.now)) a.0.now a.1.0.now (told r)
check_promises κs a r s = refl

pub list_promises : (κs : _) (a : _) (r : _) (s : _) → list.Post κs a r s ≡ Lists a.0.now a.1.0.now (told r) s.1.0.now
list_promises κs a r s = refl

-- the same of C's calls: those without a row of patterns ask for nothing

pub scanboot_measure_promises : (κs : _) (a : _) (r : _) (s : _) → scanboot-measure.Post κs a r s ≡ GivesMeasure plain a.0.now r
scanboot_measure_promises κs a r s = refl

pub scanboot_read_image_promises : (κs : _) (a : _) (r : _) (s : _) → scanboot-read-image.Post κs a r s ≡ GivesReading plain a.0.now r
scanboot_read_image_promises κs a r s = refl

pub scanboot_block_promises : (κs : _) (a : _) (r : _) (s : _) → scanboot-block.Post κs a r s ≡ GivesBlock plain a.0.now a.1.0 r
scanboot_block_promises κs a r s = refl

pub scanboot_block_addresses_promises : (κs : _) (a : _) (r : _) (s : _) → scanboot-block-addresses.Post κs a r s ≡ GivesAddresses plain a.0.now a.1.0 r
scanboot_block_addresses_promises κs a r s = refl

pub scanboot_block_at_promises : (κs : _) (a : _) (r : _) (s : _) → scanboot-block-at.Post κs a r s ≡ GivesBlockAt plain a.0.now a.1.0 r
scanboot_block_at_promises κs a r s = refl

pub scanboot_block_addresses_at_promises : (κs : _) (a : _) (r : _) (s : _) → scanboot-block-addresses-at.Post κs a r s ≡ GivesAddressesAt plain a.0.now a.1.0 r
scanboot_block_addresses_at_promises κs a r s = refl

pub scanboot_check_promises : (κs : _) (a : _) (r : _) (s : _) → scanboot-check.Post κs a r s ≡ GivesVerdict plain a.0.now a.1.0.now r
scanboot_check_promises κs a r s = refl

pub scanboot_list_promises : (κs : _) (a : _) (r : _) (s : _) → scanboot-list.Post κs a r s ≡ GivesListing a.0.now a.1.0.now r s.1.0.now
scanboot_list_promises κs a r s = refl

pub scanboot_convert_promises : (κs : _) (a : _) (r : _) (s : _) → scanboot-convert.Post κs a r s ≡ GivesConversion plain a.0.now a.1.0.now r s.1.0.now
scanboot_convert_promises κs a r s = refl

pub scanboot_load_image_promises : (κs : _) (a : _) (r : _) (s : _) → scanboot-load-image.Post κs a r s ≡ GivesLoading (loading_image plain) a.0.now a.1.0 a.1.1.0.now r s.1.1.0.now
scanboot_load_image_promises κs a r s = refl

pub scanboot_load_coff_promises : (κs : _) (a : _) (r : _) (s : _) → scanboot-load-coff.Post κs a r s ≡ GivesLoading (loading_coff plain) a.0.now a.1.0 a.1.1.0.now r s.1.1.0.now
scanboot_load_coff_promises κs a r s = refl

-- the calls with a row of patterns, and with an order behind it where they write or read an image

pub scanboot_measure_with_promises : (κs : _) (a : _) (r : _) (s : _) → scanboot-measure-with.Post κs a r s ≡ GivesMeasure (options_of a.1.0.now) a.0.now r
scanboot_measure_with_promises κs a r s = refl

pub scanboot_convert_with_promises : (κs : _) (a : _) (r : _) (s : _) → scanboot-convert-with.Post κs a r s ≡ GivesConversion (in_order a.1.1.1.0 (options_of a.1.1.0.now)) a.0.now a.1.0.now r s.1.0.now
scanboot_convert_with_promises κs a r s = refl

pub scanboot_load_coff_with_promises : (κs : _) (a : _) (r : _) (s : _) → scanboot-load-coff-with.Post κs a r s ≡ GivesLoading (loading_coff (options_of a.1.1.1.0.now)) a.0.now a.1.0 a.1.1.0.now r s.1.1.0.now
scanboot_load_coff_with_promises κs a r s = refl

pub scanboot_check_with_promises : (κs : _) (a : _) (r : _) (s : _) → scanboot-check-with.Post κs a r s ≡ GivesVerdict (in_order a.1.1.1.0 (options_of a.1.1.0.now)) a.0.now a.1.0.now r
scanboot_check_with_promises κs a r s = refl

-- the calls on an image with an order

pub scanboot_read_image_with_promises : (κs : _) (a : _) (r : _) (s : _) → scanboot-read-image-with.Post κs a r s ≡ GivesReading (in_order a.1.0 plain) a.0.now r
scanboot_read_image_with_promises κs a r s = refl

pub scanboot_block_with_promises : (κs : _) (a : _) (r : _) (s : _) → scanboot-block-with.Post κs a r s ≡ GivesBlock (in_order a.1.1.0 plain) a.0.now a.1.0 r
scanboot_block_with_promises κs a r s = refl

pub scanboot_block_addresses_with_promises : (κs : _) (a : _) (r : _) (s : _) → scanboot-block-addresses-with.Post κs a r s ≡ GivesAddresses (in_order a.1.1.0 plain) a.0.now a.1.0 r
scanboot_block_addresses_with_promises κs a r s = refl

pub scanboot_block_at_with_promises : (κs : _) (a : _) (r : _) (s : _) → scanboot-block-at-with.Post κs a r s ≡ GivesBlockAt (in_order a.1.1.0 plain) a.0.now a.1.0 r
scanboot_block_at_with_promises κs a r s = refl

pub scanboot_block_addresses_at_with_promises : (κs : _) (a : _) (r : _) (s : _) → scanboot-block-addresses-at-with.Post κs a r s ≡ GivesAddressesAt (in_order a.1.1.0 plain) a.0.now a.1.0 r
scanboot_block_addresses_at_with_promises κs a r s = refl

pub scanboot_load_image_with_promises : (κs : _) (a : _) (r : _) (s : _) → scanboot-load-image-with.Post κs a r s ≡ GivesLoading (loading_image (in_order a.1.1.1.0 plain)) a.0.now a.1.0 a.1.1.0.now r s.1.1.0.now
scanboot_load_image_with_promises κs a r s = refl

-- and whether one pattern takes a name

pub scanboot_takes_promises : (κs : _) (a : _) (r : _) (s : _) → scanboot-takes.Post κs a r s ≡ GivesTaken a.0.now a.1.0.now r
scanboot_takes_promises κs a r s = refl
