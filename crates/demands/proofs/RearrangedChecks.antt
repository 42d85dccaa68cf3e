-- The check looks at what each address receives and at the entry point, and at nothing else: so what is the same gets the same answer, and neither order nor cuts make a difference.
use Prim.Native.Nat.{ℕ}
use mathlib.Core.Path.{◌≡◌, refl, sym, ◌∙◌}
use mathlib.Core.Bool.{Bool, true}
use mathlib.Core.List.{List}
use Rattle.fields.specs.Number.{Bytes}
use Rattle.fields.specs.Rules.{Outcome, refused, done, and_then}
use Rattle.fields.specs.Options.{Options}
use Rattle.fields.specs.Program.{Block, Program, Source, blocks_of, program_of}
use Rattle.coff.specs.Reading.{read_coff}
use Rattle.image.specs.Order.{undone}
use Rattle.image.specs.Reading.{read_image}
use Rattle.image.proofs.OrderLaws.{bytes_undone}
use Rattle.demands.specs.Rearranged.{Rearranged}
use Rattle.loader.proofs.AddressLaws.{on}
use Rattle.demands.proofs.Readers.{coff_proper, image_proper}
use Rattle.compare.specs.Same.{received, Same, same_placement}
use Rattle.compare.specs.Checking.{difference_rules, comparing, checking}
use Rattle.compare.proofs.Decided.{decided}
use Rattle.demands.specs.Promises.{Checks, GivesVerdict}
use Rattle.demands.proofs.SameLaws.{same_refl, same_rearranged}

-- tests that pass together are equal
together : (a b : Bool) → (a ≡ true → b ≡ true) → (b ≡ true → a ≡ true) → a ≡ b
together a b h k = on a (λ y. y ∙ sym (h y)) (λ n. on b (λ y. k y ∙ sym y) (λ m. n ∙ sym m))

-- rows from which every address receives the same pass the same test
placement_same : (bs bs' cs cs' : List Block) → ((a : ℕ) → received bs a ≡ received bs' a) → ((a : ℕ) → received cs a ≡ received cs' a) → same_placement bs cs ≡ same_placement bs' cs'
placement_same bs bs' cs cs' h k =
    together (same_placement bs cs) (same_placement bs' cs')
    (λ y. (decided bs' cs').1 (λ a. sym (h a) ∙ (decided bs cs).0 y a ∙ k a))
    (λ y. (decided bs cs).1 (λ a. h a ∙ (decided bs' cs').0 y a ∙ sym (k a)))

differ_same : (p p' q q' : Program) → Same p p' → Same q q' → difference_rules p q ≡ difference_rules p' q'
differ_same p p' q q' h k =
    rw (h.entries, k.entries, placement_same p.blocks p'.blocks q.blocks q'.blocks h.placement k.placement)

-- Whatever stands on the other side, refusals included.
module _ (s t : Source) (same : Same (program_of s) (program_of t)) where
  comparing_images : (file : Outcome Source) → comparing file (done s) ≡ comparing file (done t)
  unfolding comparing and_then
  comparing_images (refused code index) = refl
  comparing_images (done f) = rw (differ_same (program_of f) (program_of f) (program_of s) (program_of t) (same_refl (program_of f)) same)

  comparing_files : (image : Outcome Source) → comparing (done s) image ≡ comparing (done t) image
  unfolding comparing and_then
  comparing_files (refused code index) = refl
  comparing_files (done i) = rw (differ_same (program_of s) (program_of t) (program_of i) (program_of i) same (same_refl (program_of i)))

-- Two images that mean the same get the same answer against every file, whatever is asked for ..
pub check_same_images : (o : Options) (file i j : List ℕ) (s t : Source) → read_image (undone o.order i) ≡ done s → read_image (undone o.order j) ≡ done t → Same (program_of s) (program_of t) → checking o file i ≡ checking o file j
unfolding checking
check_same_images o file i j s t reads reads' same = rw (reads, reads', comparing_images s t same (read_coff o file))

-- .. and two files against every image.
pub check_same_files : (o : Options) (f g image : List ℕ) (s t : Source) → read_coff o f ≡ done s → read_coff o g ≡ done t → Same (program_of s) (program_of t) → checking o f image ≡ checking o g image
unfolding checking
check_same_files o f g image s t reads reads' same = rw (reads, reads', comparing_files s t same (read_image (undone o.order image)))

-- So two images that differ only in the order of their blocks, or in where a section was cut, get the same answer against every file, be it read or refused:
-- of what is defined, of the verdict, and of the number that C gets.
module _ (o : Options) (file i j : List ℕ) (s t : Source) (bytes : Bytes i) (reads : read_image (undone o.order i) ≡ done s) (reads' : read_image (undone o.order j) ≡ done t) (entries : s.entry ≡ t.entry) (r : Rearranged (blocks_of s) (blocks_of t)) where
  pub check_rearranged_images : checking o file i ≡ checking o file j
  check_rearranged_images =
      check_same_images o file i j s t reads reads'
      (unfold program_of in same_rearranged (program_of s) (program_of t) entries r (image_proper (undone o.order i) (bytes_undone o.order i bytes) s reads).disjoint)

  pub verdicts_rearranged : (v w : Outcome (Unit {0})) → Checks o file i v → Checks o file j w → v ≡ w
  verdicts_rearranged v w h k = h.0 ∙ check_rearranged_images ∙ sym k.0

  pub check_numbers_rearranged : (v w : ℕ) → GivesVerdict o file i v → GivesVerdict o file j w → v ≡ w
  check_numbers_rearranged v w h k = h ∙ rw check_rearranged_images (sym k)

-- The same of two files, in the order of their kept sections or in where these were cut, against every image.
module _ (o : Options) (f g image : List ℕ) (s t : Source) (bytes : Bytes f) (reads : read_coff o f ≡ done s) (reads' : read_coff o g ≡ done t) (entries : s.entry ≡ t.entry) (r : Rearranged (blocks_of s) (blocks_of t)) where
  pub check_rearranged_files : checking o f image ≡ checking o g image
  check_rearranged_files =
      check_same_files o f g image s t reads reads'
      (unfold program_of in same_rearranged (program_of s) (program_of t) entries r (coff_proper o f bytes s reads).disjoint)
