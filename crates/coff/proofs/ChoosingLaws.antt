-- What is decided of a section: without patterns the numbers in its header decide, with them its name as well, and a name that cannot be read refuses the file before the section's ranges are asked.
use Prim.Native.Nat.{ℕ, ◌+◌, ◌*◌, ◌<◌}
use mathlib.Core.Path.{◌≡◌, refl, sym}
use mathlib.Core.Bool.{Bool, true, false, not, cond, and-eq-true_iff, and-false}
use mathlib.Core.List.{List, [], ◌∷◌}
use lib.ListN.{length}
use lib.Dec.{eqb, ltb}
use native.Mathlib.Omega.{arith}
use borrow.Author.Tests.{lt-ltb}
use Rattle.std.specs.Prelude.{Ok, Err}
use Rattle.fields.specs.Rules.{refused, unless, ruling_of, Silent}
use Rattle.fields.specs.declared.refusal.Reason.TheVariants.{SectionName}
use Rattle.fields.specs.Options.{Options, plain}
use Rattle.patterns.specs.Taking.{takes_any}
use Rattle.patterns.specs.Row.{in_front, patterns_in, options_of}
use Rattle.coff.specs.declared.section.Header.{Header}
use Rattle.coff.specs.File.{headers_begin, section_of}
use Rattle.coff.specs.Names.{name_at, is_unreadable, name_of, has_unreadable_name}
use Rattle.coff.specs.Kept.{is_kept, keeps}
use Rattle.coff.specs.Refusals.{kept_rules, section_rules, lacks_name, rules_by, rules_of}
use Rattle.coff.specs.Steps.{Chosen}
use Rattle.coff.proofs.JudgingLaws.{refused_by}
use Rattle.coff.proofs.SectionLaws.{rules_kept, rules_not}

-- What is known of a section that is kept, and of one whose rules are silent.

pub kept_by_flags_lem : (o : Options) (f : List ℕ) (i : ℕ) → keeps o f i ≡ true → is_kept (section_of f i) ≡ true
unfolding keeps
kept_by_flags_lem o f i k = ((and-eq-true_iff (is_kept (section_of f i)) _).0 k).0

pub ranges_silent : (o : Options) (f : List ℕ) (i : ℕ) → Silent (rules_of o f i) → Silent (section_rules (keeps o f) f i)
unfolding rules_by
ranges_silent o f i h = h.1

-- The rows of section i: first its name, then its ranges where it is kept.

module _ (o : Options) (f : List ℕ) (i : ℕ) where
  pub name_refuses : lacks_name o f i ≡ true → refused 16 0 ≡ ruling_of (rules_of o f i)
  unfolding rules_by
  name_refuses h = refused_by 0 _ (tt, (h, refl, refl))

  module _ (h : lacks_name o f i ≡ false) where
    pub left_silent : keeps o f i ≡ false → Silent (rules_of o f i)
    unfolding rules_by
    left_silent k = (h, rw (rules_not (keeps o f) f i k) tt)

    pub kept_decides : keeps o f i ≡ true → ruling_of (kept_rules f (section_of f i) i) ≡ ruling_of (rules_of o f i)
    unfolding rules_by unless
    kept_decides k = rw (h, rules_kept (keeps o f) f i k)

-- A row of patterns that is lent: none where it is empty, and else at least one.

pub empty_row_plain : (row : List ℕ) → length row ≡ 0 → options_of row ≡ plain
unfolding options_of patterns_in
empty_row_plain [] h = refl
empty_row_plain (b ∷ bs) h = absurd (omega arith)

pub asked_some : (row : List ℕ) → 0 < length row → 0 < length (options_of row).patterns
unfolding options_of patterns_in in_front
asked_some [] h = absurd (omega arith)
asked_some (b ∷ bs) h = go (eqb b 0) (patterns_in bs)
  where
    go : (t : Bool) (ps : List (List ℕ)) → 0 < length (cond t ([] ∷ ps) (in_front b ps))
    go true ps = omega arith
    go false [] = omega arith
    go false (p ∷ ps) = omega arith

-- The name in the code's header is the section's.
module _ (f : List ℕ) (at i : ℕ) (e : at ≡ headers_begin f) (h : Header) (p : (h.file.now ≡ f) × (h.at ≡ at + 48 * i)) where
  pub name_is : name_at h.file.now h.at ≡ name_of f i
  unfolding name_of
  name_is = rw (p.0, p.1, e)

  pub unreadable_is : is_unreadable h.file.now h.at ≡ has_unreadable_name f i
  unfolding has_unreadable_name
  unreadable_is = rw (p.0, p.1, e)

-- What decides, case by case.

module _ (o : Options) (f : List ℕ) (i : ℕ) where
  pub flags_leave : is_kept (section_of f i) ≡ false → Chosen o f i (Ok false)
  unfolding lacks_name keeps
  flags_leave h = (rw h (and-false (ltb 0 (length o.patterns))), rw h)

  module _ (h : is_kept (section_of f i) ≡ true) where
    pub name_lacking : 0 < length o.patterns → has_unreadable_name f i ≡ true → Chosen o f i (Err SectionName)
    unfolding lacks_name
    name_lacking l n = (rw (lt-ltb 0 (length o.patterns) l, h, n), refl)

    pub name_decides : has_unreadable_name f i ≡ false → (taken : Bool) → taken ≡ takes_any o.patterns (name_of f i) → Chosen o f i (Ok (not taken))
    unfolding lacks_name keeps
    name_decides n taken e = (rw (h, n) (and-false (ltb 0 (length o.patterns))), rw (h, ← e))

  -- without patterns, by the header alone
  pub header_decides : o.patterns ≡ [] → (kept : Bool) → kept ≡ is_kept (section_of f i) → Chosen o f i (Ok kept)
  header_decides e true h = (unfold lacks_name in rw e, unfold keeps takes_any in rw (← h, e))
  header_decides e false h = flags_leave (sym h)
