-- The four ways a load ends, whichever reader stands beneath it.
use Prim.Native.Nat.{ℕ}
use mathlib.Core.Path.{◌≡◌, sym, ◌∙◌}
use mathlib.Core.Bool.{true, false}
use mathlib.Core.List.{List}
use Rattle.fields.specs.Rules.{Outcome, refused, done, unless, ruling_of, and_then, Silent}
use Rattle.fields.specs.Options.{Options, plain, in_order, are_refused, is_no_order}
use Rattle.fields.specs.Answer.{answer_of}
use Rattle.fields.specs.Program.{Block, Source, blocks_of}
use Rattle.fields.proofs.RuleLaws.{silent_done, done_silent, refused_any, first_silent, first_refused}
use Rattle.fields.proofs.OptionLaws.{options_refuse, options_pass}
use Rattle.coff.specs.Reading.{read_coff}
use Rattle.image.specs.Order.{undone}
use Rattle.image.specs.Reading.{read_image}
use Rattle.image.proofs.InOrderLaws.{order_refuses, order_passes}
use Rattle.loader.specs.Placing.{is_no_window, placed, sizes_of}
use Rattle.loader.specs.Loading.{window_rules, outside_rules, loading, loading_image, loading_coff, loading_numbers, loading_of, numbers_of_loading, window_after}

module _ (source : Outcome Source) (base room : ℕ) where
  pub no_window : is_no_window base room ≡ true → loading source base room ≡ refused 28 0
  unfolding loading unless
  no_window h = first_refused (window_rules base room) _ (rw h)

  module _ (fits : is_no_window base room ≡ false) where
    after_window : loading source base room ≡ and_then source (λ s. unless (outside_rules base room s.parts) (blocks_of s))
    unfolding loading
    after_window = first_silent (window_rules base room) _ (fits, tt)

    pub source_refused : {code index : ℕ} → source ≡ refused code index → loading source base room ≡ refused code index
    unfolding and_then
    source_refused e = after_window ∙ rw e

    pub part_outside : {s : Source} {code index : ℕ} → source ≡ done s → unless (outside_rules base room s.parts) (blocks_of s) ≡ refused code index → loading source base room ≡ refused code index
    unfolding and_then
    part_outside e h = after_window ∙ rw e h

    pub all_inside : {s : Source} → source ≡ done s → Silent (outside_rules base room s.parts) → loading source base room ≡ done (blocks_of s)
    unfolding and_then
    all_inside {s} e h = after_window ∙ rw e (silent_done (outside_rules base room s.parts) (blocks_of s) h)

-- The same ends, in the words of code that asks and places: its answer, and the window afterwards.

abbrev pub Ends : Outcome (List Block) → ℕ → List ℕ → Outcome ℕ → List ℕ → Type 0
Ends o base window answer after =
    record {
      answers : answer ≡ loading_of o;
      numbers : numbers_of_loading answer ≡ loading_numbers o;
      leaves : after ≡ window_after o base window;
    }

-- the numbers of an answer are those of the outcome
pub loading_numbers_lem : (o : Outcome (List Block)) {answer : Outcome ℕ} → answer ≡ loading_of o → numbers_of_loading answer ≡ loading_numbers o
unfolding loading_of numbers_of_loading answer_of
loading_numbers_lem (refused code index) e = rw e
loading_numbers_lem (done bs) e = rw e

pub ends : (o : Outcome (List Block)) (base : ℕ) (window : List ℕ) {answer : Outcome ℕ} {after : List ℕ} → answer ≡ loading_of o → after ≡ window_after o base window → Ends o base window answer after
ends o base window e f = record { answers = e; numbers = loading_numbers_lem o e; leaves = f }

ends_refused : (o : Outcome (List Block)) (base : ℕ) (window : List ℕ) {code index : ℕ} → o ≡ refused code index → Ends o base window (refused code index) window
unfolding loading_of window_after
ends_refused o base window e = ends o base window (rw e) (rw e)

ends_done : (o : Outcome (List Block)) (base : ℕ) (window : List ℕ) {bs : List Block} → o ≡ done bs → Ends o base window (done (sizes_of bs)) (placed base window bs)
unfolding loading_of window_after
ends_done o base window e = ends o base window (rw e) (rw e)

module _ (source : Outcome Source) (base room : ℕ) (window : List ℕ) where
  pub without_window : {code index : ℕ} → refused code index ≡ ruling_of (window_rules base room) → Ends (loading source base room) base window (refused code index) window
  unfolding loading
  without_window e = ends_refused _ base window (first_refused (window_rules base room) _ (sym e))

  module _ (asked : done tt ≡ ruling_of (window_rules base room)) where
    fits : is_no_window base room ≡ false
    fits = (done_silent (window_rules base room) tt tt (sym asked)).0.0

    pub without_source : {code index : ℕ} → source ≡ refused code index → Ends (loading source base room) base window (refused code index) window
    without_source q = ends_refused _ base window (source_refused source base room fits q)

    module _ {s : Source} (q : source ≡ done s) where
      pub with_one_outside : {code index : ℕ} → refused code index ≡ ruling_of (outside_rules base room s.parts) → Ends (loading source base room) base window (refused code index) window
      with_one_outside f =
          ends_refused _ base window
          (part_outside source base room fits q (refused_any (outside_rules base room s.parts) tt (blocks_of s) (sym f)))

      pub with_all_inside : {n : ℕ} {after : List ℕ} → done tt ≡ ruling_of (outside_rules base room s.parts) → n ≡ sizes_of (blocks_of s) → after ≡ placed base window (blocks_of s) → Ends (loading source base room) base window (done n) after
      with_all_inside f counted moved =
          rw (counted, moved)
          (ends_done _ base window
          (all_inside source base room fits q (done_silent (outside_rules base room s.parts) tt tt (sym f)).0))

-- A load of a file: the options' refusal before that of the window, and else a load of what is read.
module _ (o : Options) (f : List ℕ) (base room : ℕ) where
  pub not_asked : are_refused o.patterns ≡ true → (window : List ℕ) → Ends (loading_coff o f base room) base window (refused 17 0) window
  not_asked h window = ends_refused _ base window (unfold loading_coff in options_refuse o _ h)

  pub asked : are_refused o.patterns ≡ false → is_no_order o.order ≡ false → loading_coff o f base room ≡ loading (read_coff o f) base room
  unfolding loading_coff
  asked h k = options_pass o _ h k

-- A load of an image: the order's refusal before that of the window, and else a load of what is read after undoing.
module _ (order : ℕ) (image : List ℕ) (base room : ℕ) where
  pub no_order : is_no_order order ≡ true → (window : List ℕ) → Ends (loading_image (in_order order plain) image base room) base window (refused 33 0) window
  no_order h window = ends_refused _ base window (unfold loading_image in order_refuses order _ h)

  pub in_order_lem : is_no_order order ≡ false → loading_image (in_order order plain) image base room ≡ loading (read_image (undone order image)) base room
  unfolding loading_image
  in_order_lem h = order_passes order _ h
