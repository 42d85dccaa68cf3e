-- Refusals have small numbers where every rule of the tables has.
use mathlib.Core.List.{List}
use Rattle.fields.specs.Rules.{Rule, Outcome, refused, done, unless, and_then, rules_first, Silent}
use Rattle.fields.proofs.RefusalLaws.{EachRule, OfOutcome, outcome_unless, outcome_first}
use Rattle.scanboot.specs.Bounds.{SmallRefusal}

-- a refusal has small numbers, and what comes of the call has the property
abbrev pub Small : {A : Type 0} → (A → Type 0) → Outcome A → Type 0
Small P o = OfOutcome SmallRefusal P o

abbrev pub SmallRules : List Rule → Type 0
SmallRules rs = EachRule SmallRefusal rs

pub small_unless : {A : Type 0} (P : A → Type 0) (rs : List Rule) (a : A) → SmallRules rs → (Silent rs → P a) → Small P (unless rs a)
small_unless P rs a h k = outcome_unless SmallRefusal P rs a h k

pub small_first : {A : Type 0} (P : A → Type 0) (rs : List Rule) (o : Outcome A) → SmallRules rs → (Silent rs → Small P o) → Small P (rules_first rs o)
small_first P rs o h k = outcome_first SmallRefusal P rs o h k

pub small_then : {A B : Type 0} (P : A → Type 0) (Q : B → Type 0) (o : Outcome A) (next : A → Outcome B) → Small P o → ((a : A) → P a → Small Q (next a)) → Small Q (and_then o next)
unfolding and_then
small_then P Q (refused code index) next h k = h
small_then P Q (done a) next h k = k a h

pub small_weaker : {A : Type 0} (P Q : A → Type 0) (o : Outcome A) → ((a : A) → P a → Q a) → Small P o → Small Q o
small_weaker P Q (refused code index) k h = h
small_weaker P Q (done a) k h = k a h
