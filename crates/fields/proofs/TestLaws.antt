-- Tests as tables of rules write them, alone and joined: from the numbers, and back.
use Prim.Native.Nat.{ℕ, ◌<◌, ◌≤◌}
use mathlib.Core.Path.{◌≡◌, refl}
use mathlib.Core.Bool.{Bool, true, false, not, ◌&&◌, ◌||◌}
pub use mathlib.Core.Bool.{or_comm as or_swapped}
use mathlib.Core.Logic.{◌⊎◌, inl, inr, ⊎_elim}
use Rattle.std.proofs.lemmas.Bool.{cases_lt}
use mathlib.Mathlib.Data.Bool.Basic.{or-eq-false-eq-eq-false-and-eq-false}
use lib.Dec.{ltb, eqb}
use borrow.Author.Tests.{leb-true, leb-false, lt-ltb, le-ltb, eq-eqb, ne_eqb}

-- From what is known of the numbers.

pub same : (a b : ℕ) → a ≡ b → not (eqb a b) ≡ false
same a b h = rw (eq-eqb a b h)

pub differ : (a b : ℕ) → (a ≡ b → ⊥) → not (eqb a b) ≡ true
differ a b h = rw (ne_eqb a b h)

pub or_first : (a b : ℕ) (t : Bool) → a < b → ltb a b || t ≡ true
or_first a b t h = rw (lt-ltb a b h)

pub or_second : (a b : ℕ) (t : Bool) → a < b → t || ltb a b ≡ true
or_second a b true h = refl
or_second a b false h = lt-ltb a b h

pub neither : (a b d e : ℕ) → (b ≤ a) × (e ≤ d) → ltb a b || ltb d e ≡ false
neither a b d e h = rw (le-ltb a b h.0, le-ltb d e h.1)

pub both : (a b d e : ℕ) → (a ≡ b) × (d ≡ e → ⊥) → eqb a b && not (eqb d e) ≡ true
both a b d e h = rw (eq-eqb a b h.0, ne_eqb d e h.1)

pub not_first : (a b : ℕ) (t : Bool) → (a ≡ b → ⊥) → eqb a b && t ≡ false
not_first a b t h = rw (ne_eqb a b h)

pub not_second : (a b : ℕ) (t : Bool) → a ≡ b → t && not (eqb a b) ≡ false
not_second a b true h = rw (eq-eqb a b h)
not_second a b false h = refl

pub ruleset tests = (lt-ltb, le-ltb, same, differ)

-- Of two tests that fail joined.

pub one_fails : (a b : Bool) → a && b ≡ false → (a ≡ false) ⊎ (b ≡ false)
one_fails true b h = inr h
one_fails false b h = inl refl

pub neither_holds : (a b : Bool) → a || b ≡ false → (a ≡ false) × (b ≡ false)
neither_holds a b = (or-eq-false-eq-eq-false-and-eq-false a b).0

-- Of two tests of which one passes, and of two numbers.

pub one_passes : (a b : Bool) → a || b ≡ true → (a ≡ true) ⊎ (b ≡ true)
one_passes true b h = inl refl
one_passes false b h = inr h

pub le_or_lt : (a b : ℕ) → (a ≤ b) ⊎ (b < a)
le_or_lt a b = ⊎_elim inr inl (cases_lt b a)
