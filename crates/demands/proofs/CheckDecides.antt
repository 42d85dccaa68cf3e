-- The check says "same" exactly where what is asked for passes and both inputs are read, the image after undoing, as the same program: its two rules hold of none such, and what computes decides "same".
use mathlib.Core.Path.{◌≡◌, ◌∙◌}
use mathlib.Core.List.{List}
use mathlib.Core.Logic.{◌↔◌}
use borrow.Author.Tests.{eqb-true, eq-eqb, not-false}
use Prim.Native.Nat.{ℕ}
use Rattle.fields.specs.Rules.{Rule, Outcome, done, and_then, Silent}
use Rattle.fields.specs.Options.{Options, option_rules}
use Rattle.fields.specs.Program.{Source, program_of}
use Rattle.fields.proofs.RuleLaws.{silent_done, done_silent, first_silent, first_done}
use Rattle.coff.specs.Reading.{read_coff}
use Rattle.image.specs.Order.{undone}
use Rattle.image.specs.Reading.{read_image}
use Rattle.compare.specs.Same.{Same}
use Rattle.compare.specs.Checking.{difference_rules, comparing, checking}
use Rattle.compare.proofs.Decided.{decided}
use Rattle.demands.specs.Meaning.{SameMeaning}
use Rattle.demands.specs.Spared.{Passes}
use Rattle.demands.proofs.Loads.{done_first}

-- The check, of any two readers' results.

abbrev differ : Source → Source → List Rule
differ s t = difference_rules (program_of s) (program_of t)

same_silent : (s t : Source) → Same (program_of s) (program_of t) ↔ Silent (differ s t)
same_silent s t = (
  λ h. (rw (eq-eqb (program_of s).entry (program_of t).entry h.entries), (rw ((decided (program_of s).blocks (program_of t).blocks).1 h.placement), tt)),
  λ k. record {
    entries = eqb-true (program_of s).entry (program_of t).entry (not-false _ k.0);
    placement = (decided (program_of s).blocks (program_of t).blocks).0 (not-false _ k.1.0);
  },
)

pub comparing_decides : (file image : Outcome Source) → (comparing file image ≡ done tt) ↔ SameMeaning file image
unfolding comparing
comparing_decides file image = (
  λ h.
      let a = done_first file _ h in
      let b = done_first image _ a.2 in
      record {
        this = a.0;
        that = b.0;
        reads_this = a.1;
        reads_that = b.1;
        same = (same_silent a.0 b.0).1 (done_silent (differ a.0 b.0) tt tt b.2).0;
      },
  λ m. rw (m.reads_this, m.reads_that) (unfold and_then in silent_done (differ m.this m.that) tt ((same_silent m.this m.that).0 m.same)),
)

-- the check says "same" exactly where what is asked for passes and both are read, and as the same program
pub check_decides : (o : Options) (file image : List ℕ) → (checking o file image ≡ done tt) ↔ (Passes o × SameMeaning (read_coff o file) (read_image (undone o.order image)))
unfolding checking
check_decides o file image =
    let compared = comparing (read_coff o file) (read_image (undone o.order image)) in
    let decides = comparing_decides (read_coff o file) (read_image (undone o.order image)) in (
      λ h. let first = first_done (option_rules o) compared h in (first.0, decides.0 first.1),
      λ m. first_silent (option_rules o) compared m.0 ∙ decides.1 m.1,
    )
