-- Refusals: a table of rules in their order, of which the first that holds decides.
use Rattle.std.specs.Prelude.{ℕ, ◌≡◌, Bool, true, false, List, [], ◌∷◌}

-- a rule holds or not; where it is the first that holds, its code and its index are the answer
pub record Rule : Type 0 where
  pub holds : Bool
  pub code : ℕ
  pub index : ℕ

abbrev pub rule : Bool → ℕ → ℕ → Rule
rule holds code index = record { holds = holds; code = code; index = index }

-- a refusal with its code and index, or what comes of the call
pub data Outcome (A : Type 0) : Type 0 where
  refused : ℕ → ℕ → Outcome A
  done : A → Outcome A

-- the first rule of the table that holds, or a where none does
unfoldable pub unless : {A : Type 0} → List Rule → A → Outcome A
unless [] a = done a
unless (r ∷ rs) a = elim r.holds [ true ↦ refused r.code r.index | false ↦ unless rs a ]

-- what the table says by itself
abbrev pub ruling_of : List Rule → Outcome (Unit {0})
ruling_of rs = unless rs tt

-- no rule of the table holds
abbrev pub Silent : List Rule → Type 0
Silent [] = Unit {0}
Silent (r ∷ rs) = (r.holds ≡ false) × Silent rs

-- a refusal stays; otherwise the next table is asked
unfoldable pub and_then : {A B : Type 0} → Outcome A → (A → Outcome B) → Outcome B
and_then (refused code index) next = refused code index
and_then (done a) next = next a

-- these rules first: where none of them holds, the outcome is what it is without them
unfoldable pub rules_first : {A : Type 0} → List Rule → Outcome A → Outcome A
rules_first rs o = and_then (unless rs tt) (λ (u : Unit {0}). o)
