-- What conversion makes of a file is "same" with that file under the same options, in whatever order, since it reads back as the very program; and where the check says "same", loads of
-- both do the same.
use Prim.Native.Nat.{ℕ, ◌+◌, ◌≤◌}
use mathlib.Core.Path.{◌≡◌, ap, sym, ◌∙◌}
use mathlib.Core.List.{List, ◌++◌}
use native.Mathlib.Nat.{zero-add}
use native.Mathlib.Omega.{arith}
use lib.ListN.{length, take, drop}
use lib.Seq.{take-append_seam, drop-append_seam}
use Rattle.fields.specs.Number.{Bytes}
use Rattle.fields.specs.Rules.{done}
use Rattle.fields.specs.Options.{Options, plain, in_order}
use Rattle.fields.specs.Program.{Program, Source, blocks_of, program_of}
use Rattle.coff.specs.Reading.{coff_source, read_coff}
use Rattle.fields.proofs.PatchLaws.{patch_parts}
use Rattle.image.specs.Layout.{image_of, image_length}
use Rattle.image.specs.Converting.{converting, output_after}
use Rattle.image.specs.Order.{undone, written}
use Rattle.image.specs.Reading.{read_image}
use Rattle.image.proofs.OrderLaws.{undone_written, length_written, bytes_undone}
use Rattle.demands.specs.Valid.{counted}
use Rattle.image.proofs.LayoutLaws.{length_image}
use Rattle.demands.proofs.RoundTrip.{program_counted}
use Rattle.demands.proofs.Convertible.{converted, conversion_is_valid, conversion_reads_back}
use Rattle.loader.specs.Loading.{loading_coff, loading_image}
use Rattle.demands.specs.Loaded.{Proper}
use Rattle.demands.proofs.Readers.{coff_proper, image_proper, valid_proper}
use Rattle.compare.specs.Checking.{checking}
use Rattle.demands.specs.Meaning.{SameMeaning, EqualLoads}
use Rattle.demands.proofs.Passing.{order_of, file_loads, image_loads, written_loads}
use Rattle.demands.proofs.SameLaws.{same_refl}
use Rattle.demands.proofs.CheckDecides.{check_decides}
use Rattle.demands.proofs.SameLoads.{same_loads}

-- Where the check says "same", loading either into equal windows leaves equal memory and the same figure, or both are refused: the image is loaded in the order in which it was checked.
pub check_same_loads : (o : Options) (file image : List ℕ) (base : ℕ) (window : List ℕ) → Bytes file → Bytes image → checking o file image ≡ done tt → EqualLoads base window (loading_coff o file base (length window)) (loading_image (in_order o.order plain) image base (length window))
check_same_loads o file image base window bytes bytes' says =
    let same = (check_decides o file image).0 says in
    let i = undone o.order image in
    rw (file_loads o same.0 file base (length window), image_loads (in_order o.order plain) (order_of o same.0) image base (length window))
    (same_loads (read_coff o file) (read_image i) (coff_proper o file bytes) (image_proper i (bytes_undone o.order image bytes')) same.1 base window)

-- Conversion.
module _ (o : Options) (file : List ℕ) (room : ℕ) (p : Program) (bytes : Bytes file) (made : converting o file room ≡ done p) where
  converted_means : SameMeaning (read_coff o file) (read_image (image_of p))
  converted_means =
      let c = converted o file room p made in
      record {
        this = coff_source o file;
        that = counted p;
        reads_this = c.accepted;
        reads_that = conversion_reads_back o file room p bytes made;
        same = rw (c.is, program_counted p) (same_refl p);
      }

  -- what conversion makes of a file is always "same" with that file
  pub converted_is_same : checking o file (written o.order (image_of p)) ≡ done tt
  converted_is_same = (check_decides o file (written o.order (image_of p))).1 ((converted o file room p made).asked, rw undone_written converted_means)

  converted_proper : (s : Source) → read_image (image_of p) ≡ done s → Proper (blocks_of s)
  unfolding program_of
  converted_proper s h =
      let q = sym (conversion_reads_back o file room p bytes made) ∙ h in
      let e : s ≡ counted p = cc in
      rw (e, ap (λ (x : Program). x.blocks) (program_counted p)) (valid_proper p (conversion_is_valid o file room p bytes made))

  -- loading the file does what loading its image does, in its order
  pub converted_loads : (base : ℕ) (window : List ℕ) → EqualLoads base window (loading_coff o file base (length window)) (loading_image (in_order o.order plain) (written o.order (image_of p)) base (length window))
  converted_loads base window =
      let passes = (converted o file room p made).asked in
      rw (file_loads o passes file base (length window), written_loads (in_order o.order plain) (order_of o passes) (image_of p) base (length window))
      (same_loads (read_coff o file) (read_image (image_of p)) (coff_proper o file bytes) converted_proper converted_means base window)

-- What the caller holds afterwards: the image at the front of the output, in the order that was asked for, and behind it what was there.
module _ (o : Options) (file out : List ℕ) (p : Program) (made : converting o file (length out) ≡ done p) where
  abbrev after : List ℕ
  after = output_after o.order (converting o file (length out)) out

  abbrev image : List ℕ
  image = written o.order (image_of p)

  long : length image ≡ image_length p
  long = length_written o.order (image_of p) ∙ length_image p

  output_parts : after ≡ image ++ drop (length image) out
  unfolding output_after
  output_parts =
      let fits : 0 + length image ≤ length out = omega (arith, long, (converted o file (length out) p made).fits) in
      rw made (patch_parts out 0 image fits ∙ rw zero-add)

  pub front_is_image : take (image_length p) (output_after o.order (converting o file (length out)) out) ≡ written o.order (image_of p)
  front_is_image = rw (← long, output_parts) (take-append_seam image (drop (length image) out))

  pub rest_is_kept : drop (image_length p) (output_after o.order (converting o file (length out)) out) ≡ drop (image_length p) out
  rest_is_kept = rw (← long, output_parts) (drop-append_seam image (drop (length image) out))

  -- and that front is "same" with the file
  pub output_is_same : Bytes file → checking o file (take (image_length p) (output_after o.order (converting o file (length out)) out)) ≡ done tt
  output_is_same bytes = rw front_is_image (converted_is_same o file (length out) p bytes made)
