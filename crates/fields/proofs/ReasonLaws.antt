-- A number tells its rule: results that are told alike are one.
use Prim.Native.Nat.{ℕ}
use mathlib.Core.Path.{◌≡◌, refl, ap, sym, ◌∙◌}
use mathlib.Core.Bool.{cond}
use mathlib.Core.List.{List, [], ◌∷◌}
use lib.Dec.{eqb}
use Rattle.std.specs.Prelude.{Result, Ok, Err}
use Rattle.fields.specs.Rules.{Outcome, refused, done}
use Rattle.fields.specs.Refusal.{code_of, told, told_whole}
use Rattle.fields.specs.declared.refusal.Reason.{Reason}
use Rattle.fields.specs.declared.refusal.Reason.TheVariants as reason
use Rattle.fields.specs.declared.refusal.Refusal.{Refusal}

abbrev rules : List Reason
rules = reason.FileTooLong ∷ reason.FileTooShort ∷ reason.FileVersion ∷ reason.Target ∷ reason.OptionalSize ∷ reason.Unresolved ∷ reason.TooManySections ∷ reason.HeadersCut ∷ reason.Magic ∷ reason.RawData ∷ reason.SectionLoad ∷ reason.SectionRun ∷ reason.SectionsMeet ∷ reason.ImageWouldBeTooLong ∷ reason.OutputTooShort ∷ reason.SectionName ∷ reason.Patterns ∷ reason.ImageTooLong ∷ reason.ImageCut ∷ reason.TooManyBlocks ∷ reason.BlockLoad ∷ reason.BlockRun ∷ reason.Padding ∷ reason.BytesFollow ∷ reason.BlocksMeet ∷ reason.Window ∷ reason.Outside ∷ reason.NoSuchBlock ∷ reason.Order ∷ reason.EntryDiffers ∷ reason.PlacementDiffers ∷ []

-- the first of some rules that has this number; where none has, nothing is asked of it
abbrev reason_in : List Reason → ℕ → Reason
reason_in [] n = reason.FileTooLong
reason_in (why ∷ rest) n = cond (eqb (code_of why) n) why (reason_in rest n)

abbrev reason_of : ℕ → Reason
reason_of = reason_in rules

reason_told : (why : Reason) → reason_of (code_of why) ≡ why
reason_told reason.FileTooLong = refl
reason_told reason.FileTooShort = refl
reason_told reason.FileVersion = refl
reason_told reason.Target = refl
reason_told reason.OptionalSize = refl
reason_told reason.Unresolved = refl
reason_told reason.TooManySections = refl
reason_told reason.HeadersCut = refl
reason_told reason.Magic = refl
reason_told reason.RawData = refl
reason_told reason.SectionLoad = refl
reason_told reason.SectionRun = refl
reason_told reason.SectionsMeet = refl
reason_told reason.ImageWouldBeTooLong = refl
reason_told reason.OutputTooShort = refl
reason_told reason.SectionName = refl
reason_told reason.Patterns = refl
reason_told reason.ImageTooLong = refl
reason_told reason.ImageCut = refl
reason_told reason.TooManyBlocks = refl
reason_told reason.BlockLoad = refl
reason_told reason.BlockRun = refl
reason_told reason.Padding = refl
reason_told reason.BytesFollow = refl
reason_told reason.BlocksMeet = refl
reason_told reason.Window = refl
reason_told reason.Outside = refl
reason_told reason.NoSuchBlock = refl
reason_told reason.Order = refl
reason_told reason.EntryDiffers = refl
reason_told reason.PlacementDiffers = refl

-- rules of one number are one
pub one_reason : (why why' : Reason) → code_of why ≡ code_of why' → why ≡ why'
one_reason why why' e = sym (reason_told why) ∙ ap reason_of e ∙ reason_told why'

module _ {A : Type 0} where
  abbrev result_of : Outcome A → Result A Refusal
  result_of (done a) = Ok a
  result_of (refused code index) = Err (record { reason = reason_of code; index = index })

  result_told : (r : Result A Refusal) → result_of (told r) ≡ r
  result_told (Ok a) = refl
  result_told (Err r) = ap (λ (why : Reason). Err (record { reason = why; index = r.index })) (reason_told r.reason)

  pub one_result : (r s : Result A Refusal) → told r ≡ told s → r ≡ s
  one_result r s e = sym (result_told r) ∙ ap result_of e ∙ result_told s

  -- .. where nothing but the input as a whole can be refused
  abbrev whole_of : Outcome A → Result A Reason
  whole_of (done a) = Ok a
  whole_of (refused code index) = Err (reason_of code)

  whole_told : (r : Result A Reason) → whole_of (told_whole r) ≡ r
  whole_told (Ok a) = refl
  whole_told (Err why) = ap (λ (w : Reason). Err w) (reason_told why)

  pub one_whole : (r s : Result A Reason) → told_whole r ≡ told_whole s → r ≡ s
  one_whole r s e = sym (whole_told r) ∙ ap whole_of e ∙ whole_told s
