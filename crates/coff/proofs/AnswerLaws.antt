-- The answer of the whole table: by its parts in turn, and what it leaves of a file that it does not refuse.
use Prim.Native.Nat.{ℕ, ◌+◌, ◌*◌, ◌≤◌}
use mathlib.Core.Path.{◌≡◌, refl, sym, ◌∙◌}
use mathlib.Core.Bool.{Bool, true, false, not, cond, ◌||◌, true≢false}
use mathlib.Core.List.{List, ◌++◌}
use mathlib.Core.Logic.{◌⊎◌, inl, inr, ⊎_elim}
use lib.ListN.{length, take, drop, get_or}
use lib.Dec.{eqb}
use borrow.Author.Tests.{ltb-false, eqb-true, eqb-false, eq-eqb, ne_eqb, not-false}
use native.Mathlib.Omega.{arith}
use Rattle.fields.specs.Number.{u16_at, u32_at}
use Rattle.fields.specs.Counting.{joined}
use Rattle.fields.specs.Rules.{Rule, refused, done, unless, ruling_of, Silent}
use Rattle.fields.specs.Options.{Options}
use Rattle.fields.specs.Program.{Source}
use Rattle.fields.proofs.NumberLaws.{u16_bytes}
use Rattle.fields.proofs.RuleLaws.{silent_front, silent_append, silent_done, refused_front}
use Rattle.coff.specs.declared.Marks.{Marks}
use Rattle.coff.specs.File.{section_count, optional_size, entry_point, headers_begin, headers_end}
use Rattle.coff.specs.Kept.{keeps}
use Rattle.coff.specs.Marks.{is_marked, marks_below}
use Rattle.coff.specs.Refusals.{head_rules, rules_of, overlap_rules, coff_rules}
use Rattle.coff.specs.Reading.{coff_source, read_coff}
use Rattle.coff.specs.Answer.{sections_of, headers_of}
use Rattle.coff.specs.Steps.{Laid}
use Rattle.coff.proofs.JudgingLaws.{was_refused, was_silent}
use Rattle.coff.proofs.MarkLaws.{noted}
use Rattle.coff.proofs.OverlapLaws.{pairs_same}

answer_refused : (o : Options) (f : List ℕ) {code index : ℕ} → unless (coff_rules o f) (coff_source o f) ≡ refused code index → refused code index ≡ headers_of o f
unfolding headers_of read_coff
answer_refused o f h = rw (h, headers_of)

answer_sound : (o : Options) (f : List ℕ) → Silent (coff_rules o f) → done (record { sections = sections_of o f; entry = entry_point f }) ≡ headers_of o f
unfolding headers_of read_coff coff_source
answer_sound o f h = rw (silent_done (coff_rules o f) (coff_source o f) h, headers_of)

-- The file as a whole: the rules of its header, and those of the headers that follow.

abbrev first : List ℕ → List Rule
first f = take 6 (head_rules f)

abbrev next : List ℕ → List Rule
next f = drop 6 (head_rules f)

module _ (f : List ℕ) where
  pub first_refuses : {code index : ℕ} → refused code index ≡ ruling_of (first f) → refused code index ≡ ruling_of (head_rules f)
  first_refuses h = sym (refused_front (first f) (next f) (tt {0}) (tt {0}) (sym h))

  module _ {u : Unit {0}} (p : done u ≡ ruling_of (first f)) where
    -- the file header is whole
    pub whole_by_first : 22 ≤ length f
    whole_by_first = ltb-false _ _ (was_silent (first f) p).1.0

    pub next_decides : ruling_of (next f) ≡ ruling_of (head_rules f)
    next_decides = sym (silent_front (first f) (next f) (tt {0}) (was_silent (first f) p))

  -- what is known where none of them holds
  module _ (s : Silent (head_rules f)) where
    pub head_whole : 22 ≤ length f
    head_whole = ltb-false _ _ s.1.0

    optional_known : (optional_size f ≡ 0) ⊎ (optional_size f ≡ 28)
    optional_known = go (eqb (optional_size f) 0) (eqb (optional_size f) 28) refl refl (not-false _ s.1.1.1.1.0)
      where
        go : (a b : Bool) → eqb (optional_size f) 0 ≡ a → eqb (optional_size f) 28 ≡ b → eqb (optional_size f) 0 || eqb (optional_size f) 28 ≡ true → (optional_size f ≡ 0) ⊎ (optional_size f ≡ 28)
        go true b d e h = inl (eqb-true _ _ d)
        go false true d e h = inr (eqb-true _ _ e)
        go false false d e h = absurd (true≢false (sym h ∙ rw (d, e)))

    -- one byte of the optional header's size tells whether there is one
    pub begins_by : (t : Bool) → t ≡ not (eqb (get_or f 16 0) 0) → headers_begin f ≡ cond t 50 22
    unfolding headers_begin optional_size
    begins_by t e = rw e (go (eqb (get_or f 16 0) 0) refl)
      where
        spelled : get_or f 16 0 + 256 * get_or f 17 0 ≡ u16_at f 16
        spelled = u16_bytes f 16 (omega (arith, head_whole))

        go : (z : Bool) → eqb (get_or f 16 0) 0 ≡ z → 22 + u16_at f 16 ≡ cond (not z) 50 22
        go true d = ⊎_elim (λ k. omega arith) (λ k. absurd (omega (arith, spelled, eqb-true (get_or f 16 0) 0 d))) optional_known
        go false d = ⊎_elim (λ k. absurd (eqb-false (get_or f 16 0) 0 d (omega (arith, spelled)))) (λ k. omega arith) optional_known

    pub begins_far : (headers_begin f ≡ 22 → ⊥) → 42 ≤ headers_begin f
    unfolding headers_begin
    begins_far h = ⊎_elim (λ e. absurd (h (omega arith))) (λ e. omega arith) optional_known

    pub laid : (at count : ℕ) → headers_begin f ≡ at → count ≡ section_count f → Laid f at count
    unfolding headers_end
    laid at count b c =
        record {
          begins = sym b;
          counted = c;
          few = omega (arith, ltb-false 256 (section_count f) s.1.1.1.1.1.1.0);
          within = omega (arith, ltb-false (length f) (headers_end f) s.1.1.1.1.1.1.1.0);
        }

-- Then the sections, and then pairs of them; each law has what was said before.

abbrev sections : Options → List ℕ → List Rule
sections o f = joined (rules_of o f) (section_count f)

abbrev pairs : Options → List ℕ → List Rule
pairs o f = joined (overlap_rules (keeps o f) f) (section_count f)

module _ (o : Options) (f : List ℕ) where
  parts : coff_rules o f ≡ head_rules f ++ (sections o f ++ pairs o f)
  unfolding coff_rules
  parts = refl

  pub head_refuses : {code index : ℕ} → refused code index ≡ ruling_of (head_rules f) → refused code index ≡ headers_of o f
  head_refuses h =
      let r = was_refused (head_rules f) (coff_source o f) h in
      answer_refused o f (rw parts (refused_front (head_rules f) (sections o f ++ pairs o f) (coff_source o f) (coff_source o f) r))

  module _ (p : Silent (head_rules f)) where
    past_head : (a : Source) → unless (coff_rules o f) a ≡ unless (sections o f ++ pairs o f) a
    past_head a = rw parts (silent_front (head_rules f) (sections o f ++ pairs o f) a p)

    pub sections_refuse : {code index : ℕ} → refused code index ≡ ruling_of (sections o f) → refused code index ≡ headers_of o f
    sections_refuse h =
        let r = was_refused (sections o f) (coff_source o f) h in
        answer_refused o f (past_head (coff_source o f) ∙ refused_front (sections o f) (pairs o f) (coff_source o f) (coff_source o f) r)

    module _ (kept : Marks) (s : Silent (sections o f)) (m : kept ≡ marks_below (keeps o f) (section_count f)) (few : section_count f ≤ 256) where
      -- the marks tell what is kept, so that rule 13 may ask them
      pub pairs_asked : joined (overlap_rules (is_marked kept) f) (section_count f) ≡ pairs o f
      pairs_asked =
          pairs_same f (is_marked kept) (keeps o f) (section_count f)
          (λ i l. rw m ((noted (keeps o f) (section_count f) few).tells i l))

      pub pairs_refuse : {code index : ℕ} → refused code index ≡ ruling_of (joined (overlap_rules (is_marked kept) f) (section_count f)) → refused code index ≡ headers_of o f
      pairs_refuse h =
          let r = was_refused (pairs o f) (coff_source o f) (rw pairs_asked at h) in
          answer_refused o f (past_head (coff_source o f) ∙ silent_front (sections o f) (pairs o f) (coff_source o f) s ∙ r)

      pub none_refuses : {u : Unit {0}} → done u ≡ ruling_of (joined (overlap_rules (is_marked kept) f) (section_count f)) → {at count entry : ℕ} → (at ≡ headers_begin f) × (count ≡ section_count f) × (entry ≡ entry_point f) → done (record { sections = record { at = at; count = count; kept = kept }; entry = entry }) ≡ headers_of o f
      unfolding sections_of
      none_refuses u h =
          let z = silent_append (sections o f) (pairs o f) s (was_silent (pairs o f) (rw pairs_asked at u)) in
          rw (h.0, h.1, h.2, m) (answer_sound o f (rw parts (silent_append (head_rules f) (sections o f ++ pairs o f) p z)))

pub entry_none : (f : List ℕ) → optional_size f ≡ 0 → 0 ≡ entry_point f
unfolding entry_point
entry_none f h = rw (eq-eqb _ _ h)

pub entry_some : (f : List ℕ) → (optional_size f ≡ 0 → ⊥) → u32_at f 38 ≡ entry_point f
unfolding entry_point
entry_some f h = rw (ne_eqb _ _ h)
