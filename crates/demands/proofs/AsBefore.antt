-- With nothing asked for each call answers as it did before there were patterns and orders, and looks at no name: rules 17 and 33 let it pass, no row of rule 16 holds, the numbers in the
-- headers alone decide what is kept, and an image is read and written as paper 01 has it. So who asks for nothing gets what stood before, for every input.
use Prim.Native.Nat.{ℕ, zero, suc, ◌<◌}
use mathlib.Core.Path.{◌≡◌, refl, ap, ◌∙◌}
use mathlib.Core.Bool.{Bool, true, false, and-true}
use mathlib.Core.List.{List, [], ◌∷◌, ◌++◌, append_assoc}
use native.Mathlib.Omega.{arith}
use Rattle.fields.specs.Counting.{joined}
use Rattle.fields.specs.Rules.{Rule, Outcome, refused, done, unless, and_then}
use Rattle.fields.specs.Options.{Options, plain, in_order}
use Rattle.fields.specs.Program.{Program}
use Rattle.fields.specs.Patch.{patch}
use Rattle.fields.proofs.CountingLaws.{joined_same}
use Rattle.fields.proofs.OptionLaws.{options_pass, plain_passes, plain_order_passes}
use Rattle.patterns.specs.Taking.{takes_any}
use Rattle.patterns.specs.Row.{options_of}
use Rattle.coff.specs.File.{section_count, section_of}
use Rattle.coff.specs.Kept.{is_kept, keeps}
use Rattle.coff.specs.Refusals.{head_rules, section_rules, lacks_name, rules_by, rules_of, coff_rules}
use Rattle.coff.specs.Reading.{part_of, source_with, coff_source, read_coff}
use Rattle.coff.proofs.OverlapLaws.{pairs_same}
use Rattle.image.specs.Layout.{image_of}
use Rattle.image.specs.Reading.{read_image, reading_in}
use Rattle.image.specs.Asking.{asking, asking_in}
use Rattle.image.specs.Standing.{standing, standing_in}
use Rattle.image.specs.Converting.{writing, sizing, converting, measuring, output_after}
use Rattle.image.proofs.OrderLaws.{undone_plain, written_plain, undone_from_plain}
use Rattle.loader.specs.Loading.{loading, loading_image, loading_coff}
use Rattle.compare.specs.Checking.{comparing, checking}
use Rattle.lines.specs.Text.{text_of}
use Rattle.lines.specs.Listing.{text_rules, listing}
use Rattle.demands.specs.ByFlags.{kept_by_flags, rules_by_flags, read_by_flags}
use Rattle.demands.specs.Promises.{GivesMeasure, GivesConversion, GivesLoading, GivesVerdict}
use Rattle.demands.proofs.SameOutcome.{same_answer, same_outcome}
use Rattle.demands.proofs.Patterns.{nothing_asked}
use Rattle.demands.proofs.Passing.{nothing_passes, image_reads, image_asked, image_stands, image_loads}

-- Tables of which the first rule that holds is the same.

behind_same : {A : Type 0} (rs xs ys : List Rule) (a : A) → unless xs a ≡ unless ys a → unless (rs ++ xs) a ≡ unless (rs ++ ys) a
unfolding unless
behind_same [] xs ys a h = h
behind_same (r ∷ rs) xs ys a h = ap (λ (rest : Outcome _). elim r.holds [ true ↦ refused r.code r.index | false ↦ rest ]) (behind_same rs xs ys a h)

rows_same : {A : Type 0} (g h : ℕ → List Rule) (n : ℕ) (rest : List Rule) (a : A) → ((i : ℕ) → i < n → (more : List Rule) → unless (g i ++ more) a ≡ unless (h i ++ more) a) → unless (joined g n ++ rest) a ≡ unless (joined h n ++ rest) a
unfolding joined
rows_same g h zero rest a e = refl
rows_same g h (suc n) rest a e =
    rw (append_assoc (joined g n) (g n) rest, append_assoc (joined h n) (h n) rest)
    (rows_same g h n (g n ++ rest) a (λ i l. e i (omega arith)) ∙ behind_same (joined h n) (g n ++ rest) (h n ++ rest) a (e n (omega arith) rest))

-- What is read is made of the sections that are kept, whichever test tells them.
pub source_same : (o : Options) (f : List ℕ) (keep : ℕ → Bool) → ((i : ℕ) → i < section_count f → keeps o f i ≡ keep i) → coff_source o f ≡ source_with keep f
unfolding coff_source part_of
source_same o f keep same = rw (joined_same (part_of (keeps o f) f) (part_of keep f) (section_count f) (λ i h. rw (same i h)))

-- Where no section lacks a name that is wanted, and those are kept that the numbers in their headers keep, a file is read by these alone.
module _ (o : Options) (f : List ℕ) (named : (i : ℕ) → i < section_count f → lacks_name o f i ≡ false) (kept : (i : ℕ) → i < section_count f → keeps o f i ≡ kept_by_flags f i) where
  row_same : {A : Type 0} (a : A) (i : ℕ) → i < section_count f → (more : List Rule) → unless (rules_of o f i ++ more) a ≡ unless (section_rules (kept_by_flags f) f i ++ more) a
  unfolding rules_by section_rules unless
  row_same a i h more = rw (named i h, kept i h)

  pub reads_by_flags : read_coff o f ≡ read_by_flags f
  unfolding read_coff coff_rules read_by_flags rules_by_flags
  reads_by_flags =
      rw (source_same o f (kept_by_flags f) kept, pairs_same f (keeps o f) (kept_by_flags f) (section_count f) kept)
      (behind_same (head_rules f) _ _ (source_with (kept_by_flags f) f)
      (rows_same (rules_of o f) (section_rules (kept_by_flags f) f) (section_count f) _ (source_with (kept_by_flags f) f) (row_same (source_with (kept_by_flags f) f))))

-- With nothing asked for.

pub plain_keeps : (f : List ℕ) (i : ℕ) → keeps plain f i ≡ is_kept (section_of f i)
unfolding keeps takes_any
plain_keeps f i = and-true (is_kept (section_of f i))

pub plain_wants_no_name : (f : List ℕ) (i : ℕ) → lacks_name plain f i ≡ false
unfolding lacks_name
plain_wants_no_name f i = refl

pub plain_reads : (f : List ℕ) → read_coff plain f ≡ read_by_flags f
plain_reads f = reads_by_flags plain f (λ i h. plain_wants_no_name f i) (λ i h. unfold kept_by_flags in plain_keeps f i)

pub plain_converts : (f : List ℕ) (room : ℕ) → converting plain f room ≡ writing (read_by_flags f) room
unfolding converting
plain_converts f room = options_pass plain _ plain_passes plain_order_passes ∙ rw (plain_reads f)

pub plain_measures : (f : List ℕ) → measuring plain f ≡ sizing (read_by_flags f)
unfolding measuring
plain_measures f = options_pass plain _ plain_passes plain_order_passes ∙ rw (plain_reads f)

pub plain_loads : (f : List ℕ) (base room : ℕ) → loading_coff plain f base room ≡ loading (read_by_flags f) base room
unfolding loading_coff
plain_loads f base room = options_pass plain _ plain_passes plain_order_passes ∙ rw (plain_reads f)

pub plain_checks : (f image : List ℕ) → checking plain f image ≡ comparing (read_by_flags f) (read_image image)
unfolding checking
plain_checks f image = options_pass plain _ plain_passes plain_order_passes ∙ rw (plain_reads f, undone_plain)

pub plain_lists : (f : List ℕ) (room : ℕ) → listing f room ≡ and_then (read_by_flags f) (λ s. unless (text_rules (text_of (section_count f) s) room) (text_of (section_count f) s))
unfolding listing
plain_lists f room = rw (plain_reads f)

-- Of an image, and of what is written.
module _ (image : List ℕ) where
  pub plain_reads_image : reading_in plain image ≡ read_image image
  plain_reads_image = image_reads plain nothing_passes image ∙ rw undone_plain

  pub plain_asks : (k : ℕ) → asking_in plain image k ≡ asking image k
  plain_asks k = image_asked plain nothing_passes image k ∙ rw undone_plain

  pub plain_stands : (place : ℕ) → standing_in plain image place ≡ standing image place
  plain_stands place = image_stands plain nothing_passes image place ∙ rw undone_from_plain

  pub plain_loads_image : (base room : ℕ) → loading_image plain image base room ≡ loading (read_image image) base room
  plain_loads_image base room = image_loads plain nothing_passes image base room ∙ rw undone_plain

pub plain_writes : (p : Program) (out : List ℕ) → output_after 0 (done p) out ≡ patch out 0 (image_of p)
unfolding output_after
plain_writes p out = rw written_plain

-- What C gets with an empty row of patterns, and with order 0 where a call takes one, is what it gets without them.
module _ (file : List ℕ) where
  pub empty_row_measures : (r r' : ℕ) → GivesMeasure (options_of []) file r → GivesMeasure plain file r' → r ≡ r'
  empty_row_measures r r' h = same_answer (rw nothing_asked at h)

  pub empty_row_converts : (out : List ℕ) (r r' : ℕ) (after after' : List ℕ) → GivesConversion (in_order 0 (options_of [])) file out r after → GivesConversion plain file out r' after' → (r ≡ r') × (after ≡ after')
  empty_row_converts out r r' after after' h = same_outcome (rw nothing_asked at h)

  pub empty_row_loads : (base : ℕ) (window : List ℕ) (r r' : ℕ) (after after' : List ℕ) → GivesLoading (loading_coff (options_of [])) file base window r after → GivesLoading (loading_coff plain) file base window r' after' → (r ≡ r') × (after ≡ after')
  empty_row_loads base window r r' after after' h = same_outcome (rw nothing_asked at h)

  pub empty_row_checks : (image : List ℕ) (r r' : ℕ) → GivesVerdict (in_order 0 (options_of [])) file image r → GivesVerdict plain file image r' → r ≡ r'
  empty_row_checks image r r' h = same_answer (rw nothing_asked at h)

-- Order 0 alone, of an image, asks for nothing.
pub order_0_asks_nothing : in_order 0 plain ≡ plain
order_0_asks_nothing = refl
