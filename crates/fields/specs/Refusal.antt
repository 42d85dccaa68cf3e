-- A refusal as the code has it, and what a call answers in the papers' numbers.
use Rattle.std.specs.Prelude.{ℕ, Result, Ok, Err}
use Rattle.fields.specs.Rules.{Outcome, refused, done}
use Rattle.fields.specs.declared.refusal.Reason.{Reason}
use Rattle.fields.specs.declared.refusal.Reason.TheVariants as reason
use Rattle.fields.specs.declared.refusal.Refusal.{Refusal}

-- the number of each rule
abbrev pub code_of : Reason → ℕ
code_of reason.FileTooLong = 1
code_of reason.FileTooShort = 2
code_of reason.FileVersion = 3
code_of reason.Target = 4
code_of reason.OptionalSize = 5
code_of reason.Unresolved = 6
code_of reason.TooManySections = 7
code_of reason.HeadersCut = 8
code_of reason.Magic = 9
code_of reason.RawData = 10
code_of reason.SectionLoad = 11
code_of reason.SectionRun = 12
code_of reason.SectionsMeet = 13
code_of reason.ImageWouldBeTooLong = 14
code_of reason.OutputTooShort = 15
code_of reason.SectionName = 16
code_of reason.Patterns = 17
code_of reason.ImageTooLong = 20
code_of reason.ImageCut = 21
code_of reason.TooManyBlocks = 22
code_of reason.BlockLoad = 23
code_of reason.BlockRun = 24
code_of reason.Padding = 25
code_of reason.BytesFollow = 26
code_of reason.BlocksMeet = 27
code_of reason.Window = 28
code_of reason.Outside = 29
code_of reason.NoSuchBlock = 30
code_of reason.Order = 33
code_of reason.EntryDiffers = 40
code_of reason.PlacementDiffers = 41

-- of the input as a whole the index is 0
abbrev pub because : Reason → Refusal
because why = record { reason = why; index = 0 }

-- what a call answers, as an outcome: a refusal by its rule's number and its index, or what `view` sees of its result
abbrev pub told_by : {A B : Type 0} → (A → B) → Result A Refusal → Outcome B
told_by view (Ok a) = done (view a)
told_by view (Err r) = refused (code_of r.reason) r.index

abbrev pub told : {A : Type 0} → Result A Refusal → Outcome A
told = told_by (λ a. a)

-- .. where nothing but the input as a whole can be refused
abbrev pub told_whole_by : {A B : Type 0} → (A → B) → Result A Reason → Outcome B
told_whole_by view (Ok a) = done (view a)
told_whole_by view (Err why) = refused (code_of why) 0

abbrev pub told_whole : {A : Type 0} → Result A Reason → Outcome A
told_whole = told_whole_by (λ a. a)
