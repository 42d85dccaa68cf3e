-- What a table of rules says, and what that tells of the table.
use Prim.Native.Nat.{ℕ}
use mathlib.Core.Path.{◌≡◌, sym}
use mathlib.Core.List.{List}
use Rattle.fields.specs.Rules.{Rule, refused, done, unless, ruling_of, Silent}
use Rattle.fields.proofs.RuleLaws.{silent_done, done_silent, refused_any, Broken, broken}

pub passes : (rs : List Rule) → Silent rs → done tt ≡ ruling_of rs
passes rs h = sym (silent_done rs (tt {0}) h)

pub refused_by : (k : ℕ) (rs : List Rule) {code index : ℕ} → Broken k rs code index → refused code index ≡ ruling_of rs
refused_by k rs h = sym (broken k rs (tt {0}) h)

pub was_refused : {A : Type 0} (rs : List Rule) (a : A) {code index : ℕ} → refused code index ≡ ruling_of rs → unless rs a ≡ refused code index
was_refused rs a h = refused_any rs (tt {0}) a (sym h)

pub was_silent : (rs : List Rule) {u : Unit {0}} → done u ≡ ruling_of rs → Silent rs
was_silent rs {u} h = (done_silent rs (tt {0}) u (sym h)).0
