-- Options that pass: no rule of their own holds. Those that spare a file: they pass, and no section that is otherwise kept has a name that is taken or cannot be read.
use Rattle.std.specs.Prelude.{ℕ, ◌<◌, ◌≡◌, true, false, List}
use Rattle.fields.specs.Rules.{Silent}
use Rattle.fields.specs.Options.{Options, option_rules}
use Rattle.patterns.specs.Taking.{takes_any}
use Rattle.coff.specs.File.{section_count, section_of}
use Rattle.coff.specs.Kept.{is_kept}
use Rattle.coff.specs.Names.{name_of, has_unreadable_name}

abbrev pub Passes : Options → Type 0
Passes o = Silent (option_rules o)

pub record Spares (o : Options) (f : List ℕ) : Type 0 where
  pub passes : Passes o
  pub named : (i : ℕ) → i < section_count f → is_kept (section_of f i) ≡ true → has_unreadable_name f i ≡ false
  pub spared : (i : ℕ) → i < section_count f → is_kept (section_of f i) ≡ true → takes_any o.patterns (name_of f i) ≡ false
