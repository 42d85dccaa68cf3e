-- Every answer is small, and so C gets its numbers whole.
use Prim.Native.Nat.{ℕ, ◌*◌, ◌^◌, ◌<◌, ◌≤◌}
use mathlib.Core.Path.{◌≡◌, refl}
use mathlib.Core.List.{List, [], ◌∷◌, map}
use native.Mathlib.Omega.{arith}
use lib.ListN.{length, length-map}
use lib.Dec.{leb}
use borrow.Author.Tests.{leb-false, ltb-false}
use Rattle.fields.specs.Number.{Bytes}
use Rattle.fields.specs.Rules.{rule}
use Rattle.fields.specs.Rules.{Outcome, refused, done, unless, and_then, rules_first}
use Rattle.fields.specs.Options.{Options, plain, option_rules}
use Rattle.fields.specs.Program.{Block, Numbered, Program, Source, blocks_of, program_of}
use Rattle.coff.specs.File.{section_count}
use Rattle.coff.specs.Reading.{read_coff}
use Rattle.image.specs.Layout.{image_length}
use Rattle.image.specs.Order.{undone, undone_from}
use Rattle.image.specs.Reading.{read_image, reading_in, reading_of}
use Rattle.image.specs.Asking.{Whereabouts, where_is, asking, asking_in, told_of, asked_of}
use Rattle.image.specs.Standing.{place_rules, stands_at, standing, standing_in}
use Rattle.image.specs.Converting.{room_rules, length_rules, converting, writing, sizing, measuring, conversion_of}
use Rattle.loader.specs.Placing.{sizes_of}
use Rattle.loader.specs.Loading.{window_rules, outside_rules, loading, loading_image, loading_coff, loading_of}
use Rattle.compare.specs.Checking.{difference_rules, comparing, checking}
use Rattle.image.proofs.OrderLaws.{bytes_undone, bytes_undone_from}
use Rattle.lines.specs.Text.{text_of}
use Rattle.lines.specs.Listing.{text_rules, listing, listed_of}
use Rattle.lines.proofs.TextLaws.{text_short}
use Rattle.scanboot.specs.Bounds.{SmallConversion, SmallReading, SmallAsked, SmallLoading, SmallVerdict, SmallListing}
use Rattle.scanboot.proofs.SmallLaws.{Small, SmallRules, small_unless, small_first, small_then, small_weaker}
use Rattle.scanboot.proofs.SourceLaws.{EachSmall, Bounded, bounded_wider, coff_bounded}
use Rattle.scanboot.proofs.ImageLaws.{WasRead, Placed, image_read, image_bounded, blocks_read, entry_read, block_read, placed_at}

length_blocks : (s : Source) → length (blocks_of s) ≡ length s.parts
unfolding blocks_of
length_blocks s = length-map s.parts (λ (p : Numbered). p.block)

-- Conversion.

abbrev Fitting : Program → Type 0
Fitting p = (image_length p ≤ 16777216) × (length p.blocks ≤ 256)

fitting_small : (o : Outcome Program) → Small Fitting o → SmallConversion (conversion_of o)
unfolding conversion_of
fitting_small (refused code index) h = h
fitting_small (done p) h = h

-- whatever is asked for, its own rule has small numbers too
options_small : {A : Type 0} (P : A → Type 0) (o : Options) (out : Outcome A) → Small P out → Small P (rules_first (option_rules o) out)
options_small P o out h = small_first P (option_rules o) out (omega arith) (λ silent. h)

pub conversion_small : (o : Options) (f : List ℕ) (room : ℕ) → SmallConversion (conversion_of (converting o f room))
unfolding converting writing program_of
conversion_small o f room =
    fitting_small (converting o f room)
    (options_small Fitting o (writing (read_coff o f) room)
    (small_then (Bounded 256) Fitting (read_coff o f) (λ s. unless (room_rules (program_of s) room) (program_of s)) (coff_bounded o f)
    (λ s b.
    small_unless Fitting (room_rules (program_of s) room) (program_of s) (omega arith)
    (λ silent. (ltb-false 16777216 (image_length (program_of s)) silent.0, rw (length_blocks s) b.few)))))

pub measured_small : (o : Options) (f : List ℕ) → SmallConversion (conversion_of (measuring o f))
unfolding measuring sizing program_of
measured_small o f =
    fitting_small (measuring o f)
    (options_small Fitting o (sizing (read_coff o f))
    (small_then (Bounded 256) Fitting (read_coff o f) (λ s. unless (length_rules (program_of s)) (program_of s)) (coff_bounded o f)
    (λ s b.
    small_unless Fitting (length_rules (program_of s)) (program_of s) (omega arith)
    (λ silent. (ltb-false 16777216 (image_length (program_of s)) silent.0, rw (length_blocks s) b.few)))))

-- A load, over any reader.

sizes_small : (ps : List Numbered) → EachSmall ps → sizes_of (map (λ (p : Numbered). p.block) ps) ≤ length ps * 16777216
unfolding sizes_of
sizes_small [] h = omega arith
sizes_small (p ∷ ps) h = omega (arith, h.0.1, sizes_small ps h.1)

outside_small : (base room : ℕ) (ps : List Numbered) → EachSmall ps → SmallRules (outside_rules base room ps)
unfolding outside_rules
outside_small base room [] h = tt
outside_small base room (p ∷ ps) h = (record { real = omega arith; byte = omega arith; low = h.0.0 }, outside_small base room ps h.1)

abbrev Few : List Block → Type 0
Few bs = sizes_of bs ≤ 4096 * 16777216

few_small : (o : Outcome (List Block)) → Small Few o → SmallLoading (loading_of o)
unfolding loading_of
few_small (refused code index) h = h
few_small (done bs) h = h

any_load_small : (source : Outcome Source) (base room : ℕ) → Small (Bounded 4096) source → Small Few (loading source base room)
unfolding loading blocks_of
any_load_small source base room h =
    small_first Few (window_rules base room) (and_then source place) (omega arith)
    (λ silent.
    small_then (Bounded 4096) Few source place h
    (λ s b.
    small_unless Few (outside_rules base room s.parts) (blocks_of s) (outside_small base room s.parts b.each)
    (λ inside. omega (arith, b.few, sizes_small s.parts b.each))))
  where
    place : Source → Outcome (List Block)
    place s = unless (outside_rules base room s.parts) (blocks_of s)

pub load_image_small : (o : Options) (image : List ℕ) (base room : ℕ) → SmallLoading (loading_of (loading_image o image base room))
unfolding loading_image
load_image_small o image base room =
    let u = undone o.order image in
    few_small (loading_image o image base room)
    (options_small Few o (loading (read_image u) base room)
    (any_load_small (read_image u) base room
    (small_weaker (WasRead u) (Bounded 4096) (read_image u) (λ s known. image_bounded u s known) (image_read u))))

pub load_coff_small : (o : Options) (file : List ℕ) (base room : ℕ) → SmallLoading (loading_of (loading_coff o file base room))
unfolding loading_coff
load_coff_small o file base room =
    few_small (loading_coff o file base room)
    (options_small Few o (loading (read_coff o file) base room)
    (any_load_small (read_coff o file) base room
    (small_weaker (Bounded 256) (Bounded 4096) (read_coff o file) bounded_wider (coff_bounded o file))))

-- Reading an image. Its entry point is below 2 ^ 32 because it is spelled by four bytes.

abbrev Whole : Source → Type 0
Whole s = (s.entry < 2 ^ 32) × (length s.parts ≤ 4096)

whole_small : (o : Outcome Source) → Small Whole o → SmallReading (reading_of o)
unfolding reading_of
whole_small (refused code index) h = h
whole_small (done s) h = h

pub reading_small : (o : Options) (s : List ℕ) → Bytes s → SmallReading (reading_of (reading_in o s))
unfolding reading_in
reading_small o s b =
    let u = undone o.order s in
    whole_small (reading_in o s)
    (options_small Whole o (read_image u)
    (small_weaker (WasRead u) Whole (read_image u) (λ src known. (entry_read u src known (bytes_undone o.order s b), (image_bounded u src known).few)) (image_read u)))

-- Asking for one block.

placed_small : (o : Outcome Whereabouts) → Small Placed o → SmallAsked (asked_of o)
unfolding asked_of told_of
placed_small (refused code index) h = h
placed_small (done w) h = h

found_small : (s : List ℕ) (k : ℕ) → Small Placed (asking s k)
unfolding asking
found_small s k =
    (small_then (WasRead s) Placed (read_image s) find (image_read s)
    (λ src known.
    small_unless Placed (rule (leb (length (blocks_of src)) k) 30 0 ∷ []) (where_is (blocks_of src) k) (omega arith)
    (λ silent.
    let e = blocks_read s src known in
    rw e (block_read s src known k (rw e at (leb-false (length (blocks_of src)) k silent.0))))))
  where
    find : Source → Outcome Whereabouts
    find src = unless (rule (leb (length (blocks_of src)) k) 30 0 ∷ []) (where_is (blocks_of src) k)

pub asked_small : (o : Options) (s : List ℕ) (k : ℕ) → SmallAsked (asked_of (asking_in o s k))
unfolding asking_in
asked_small o s k = placed_small (asking_in o s k) (options_small Placed o (asking (undone o.order s) k) (found_small (undone o.order s) k))

-- Asking what stands at a place. A block's addresses are below 2 ^ 32 because each is spelled by four bytes.
stands_small : (s : List ℕ) (place : ℕ) → Bytes s → Small Placed (standing s place)
unfolding standing
stands_small s place b =
    small_unless Placed (place_rules s place) (stands_at s place) (omega arith)
    (λ silent. placed_at s place b (ltb-false 16777216 (length s) silent.0) silent.1.1.0)

pub standing_small : (o : Options) (s : List ℕ) (place : ℕ) → Bytes s → SmallAsked (asked_of (standing_in o s place))
unfolding standing_in
standing_small o s place b =
    let u = undone_from o.order place s in
    placed_small (standing_in o s place) (options_small Placed o (standing u place) (stands_small u place (bytes_undone_from o.order place s b)))

-- The check.

abbrev Any : {A : Type 0} → A → Type 0
Any a = Unit {0}

any_small : (o : Outcome (Unit {0})) → Small Any o → SmallVerdict o
any_small (refused code index) h = h
any_small (done u) h = tt

pub verdict_small : (o : Options) (file image : List ℕ) → SmallVerdict (checking o file image)
unfolding checking comparing
verdict_small o file image =
    any_small (checking o file image)
    (options_small Any o (comparing (read_coff o file) (read_image u))
    (small_then (Bounded 256) Any (read_coff o file) first (coff_bounded o file)
    (λ s b.
    small_then (WasRead u) Any (read_image u) (second s) (image_read u)
    (λ t known. small_unless Any (difference_rules (program_of s) (program_of t)) tt (omega arith) (λ silent. tt)))))
  where
    u : List ℕ
    u = undone o.order image

    second : Source → Source → Outcome (Unit {0})
    second s t = unless (difference_rules (program_of s) (program_of t)) tt

    first : Source → Outcome (Unit {0})
    first s = and_then (read_image u) (second s)

-- The listing. A refusal is the file's or rule 15, and no text is long.

abbrev Short : List ℕ → Type 0
Short text = length text ≤ 16384

short_small : (o : Outcome (List ℕ)) → Small Short o → SmallListing (listed_of o)
unfolding listed_of
short_small (refused code index) h = h
short_small (done text) h = h

texts_short : (f : List ℕ) → Small (λ (s : Source). Short (text_of (section_count f) s)) (read_coff plain f)
texts_short f = go (read_coff plain f) refl (coff_bounded plain f)
  where
    go : (o : Outcome Source) → read_coff plain f ≡ o → Small (Bounded 256) o → Small (λ (s : Source). Short (text_of (section_count f) s)) o
    go (refused code index) e h = h
    go (done s) e h = omega (arith, text_short f e)

pub listing_small : (f : List ℕ) (room : ℕ) → SmallListing (listed_of (listing f room))
unfolding listing
listing_small f room =
    short_small (listing f room)
    (small_then (λ (s : Source). Short (text_of (section_count f) s)) Short (read_coff plain f) next (texts_short f)
    (λ s short. small_unless Short (text_rules (text_of (section_count f) s) room) (text_of (section_count f) s) (omega arith) (λ silent. short)))
  where
    next : Source → Outcome (List ℕ)
    next s = unless (text_rules (text_of (section_count f) s) room) (text_of (section_count f) s)
