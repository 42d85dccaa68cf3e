-- What is noted of the sections below i, and of one more: a section that is left changes nothing, and a kept one is marked, ends below the new top, and rises or not.
use Prim.Native.Nat.{ℕ, ◌+◌, ◌≤◌}
use mathlib.Core.Path.{◌≡◌, refl, sym, ◌∙◌}
use mathlib.Core.Bool.{true, false, ◌&&◌, and-eq-true_iff}
use mathlib.Core.List.{List}
use native.Mathlib.Omega.{arith}
use lib.Dec.{leb}
use borrow.Author.Tests.{leb-true}
use Rattle.fields.specs.Options.{Options}
use Rattle.fields.proofs.RuleLaws.{silent_none}
use Rattle.coff.specs.declared.Marks.{Marks}
use Rattle.coff.specs.declared.ranges.Noted.{Noted}
use Rattle.coff.specs.File.{section_of}
use Rattle.coff.specs.Kept.{keeps}
use Rattle.coff.specs.Marks.{with_mark, no_marks}
use Rattle.coff.specs.Refusals.{overlap_rules}
use Rattle.coff.specs.Steps.{NotedTo}
use Rattle.coff.proofs.MarkLaws.{marks_none, marks_kept, marks_left}
use Rattle.coff.proofs.OverlapLaws.{silent_turn, clear_left, topped_left, clear_at_once, topped_kept}

pub nothing_noted : (o : Options) (f : List ℕ) (marks : Marks) → marks ≡ no_marks → NotedTo o f 0 (record { kept = marks; rise = true }) 0
nothing_noted o f marks e =
    record {
      marks = e ∙ sym (marks_none (keeps o f));
      topped = λ k b. absurd (omega arith);
      risen = λ r. silent_none (overlap_rules (keeps o f) f);
    }

module _ (o : Options) (f : List ℕ) (i : ℕ) (n : Noted) (top : ℕ) (t : NotedTo o f i n top) where
  pub left_noted : keeps o f i ≡ false → NotedTo o f (i + 1) n top
  left_noted k =
      record {
        marks = t.marks ∙ sym (marks_left (keeps o f) i k);
        topped = topped_left (keeps o f) f i k top t.topped;
        risen = λ r. silent_turn (keeps o f) f i (clear_left (keeps o f) f i k) (t.risen r);
      }

  pub kept_noted : keeps o f i ≡ true → (marks : Marks) → marks ≡ with_mark n.kept i → (up : ℕ) → (top ≤ up) × ((section_of f i).load + (section_of f i).size ≤ up) → NotedTo o f (i + 1) (record { kept = marks; rise = n.rise && leb top (section_of f i).load }) up
  kept_noted k marks m up h =
      record {
        marks = m ∙ rw t.marks (sym (marks_kept (keeps o f) i k));
        topped = topped_kept (keeps o f) f i k _ refl top up t.topped h;
        risen =
            λ r.
            let b = (and-eq-true_iff n.rise (leb top (section_of f i).load)).0 r in
            silent_turn (keeps o f) f i (clear_at_once (keeps o f) f i k _ refl top t.topped (leb-true _ _ b.1)) (t.risen b.0);
      }
