-- What the two steps of the matcher promise one another.
use Rattle.std.specs.Prelude.{ℕ, ◌≡◌, true, false, List, drop}
use Rattle.patterns.specs.Taking.{takes}
use Rattle.patterns.specs.declared.Match.{Match}
use Rattle.patterns.specs.declared.Match.TheVariants.{Taken, NotHere, Never}

-- the pattern takes neither the name nor any later part of it
abbrev pub TakesNoPart : List ℕ → List ℕ → Type 0
TakesNoPart p name = (k : ℕ) → takes p (drop k name) ≡ false

-- the pattern takes the name; or it does not; or it takes no part of it, and then a star before the pattern need not go on
abbrev pub Matches : List ℕ → List ℕ → Match → Type 0
Matches p name Taken = takes p name ≡ true
Matches p name NotHere = takes p name ≡ false
Matches p name Never = TakesNoPart p name

-- what follows a star was tried at every later place: it is never only not here
abbrev pub Tries : List ℕ → List ℕ → Match → Type 0
Tries p name Taken = Matches p name Taken
Tries p name NotHere = ⊥
Tries p name Never = Matches p name Never
