-- The code's header of a section is the section's, and each section has its own rules.
use Prim.Native.Nat.{ℕ, ◌+◌, ◌*◌, ◌^◌, ◌<◌, ◌≤◌}
use mathlib.Core.Path.{◌≡◌}
use mathlib.Core.Bool.{Bool, true, false, ◌||◌}
use mathlib.Core.List.{List, []}
use lib.ListN.{length}
use lib.Dec.{ltb}
use native.Mathlib.Omega.{arith}
use Rattle.fields.proofs.TestLaws.{tests, or_first, or_second, neither}
use Rattle.fields.specs.Rules.{refused, done, ruling_of}
use Rattle.coff.specs.declared.section.Header.{Header}
use Rattle.coff.specs.File.{Section, headers_end, section_of, headers_begin}
use Rattle.coff.specs.Headers.{section_at}
use Rattle.coff.specs.Refusals.{kept_rules, section_rules}
use Rattle.coff.specs.Steps.{Laid}
use Rattle.coff.proofs.JudgingLaws.{passes, refused_by}

pub section_is : (f : List ℕ) (at i : ℕ) → at ≡ headers_begin f → (h : Header) → (h.file.now ≡ f) × (h.at ≡ at + 48 * i) → section_at h ≡ section_of f i
unfolding section_of
section_is f at i e h p = rw (p.0, p.1, e)

module _ (keep : ℕ → Bool) (f : List ℕ) (i : ℕ) where
  pub rules_kept : keep i ≡ true → section_rules keep f i ≡ kept_rules f (section_of f i) i
  unfolding section_rules
  rules_kept k = rw k

  pub rules_not : keep i ≡ false → section_rules keep f i ≡ []
  unfolding section_rules
  rules_not k = rw k

-- the end of the headers, as the code computes it
pub end_is : (f : List ℕ) (at count : ℕ) → Laid f at count → headers_end f ≡ at + 48 * count
unfolding headers_end
end_is f at count l = omega (arith, l.begins, l.counted)

-- What is asked of section i, which is kept: rules 10 to 12.
module _ (f : List ℕ) (at count i : ℕ) (laid : Laid f at count) (s : Section) where
  pub begins_early : s.raw < at + 48 * count → refused 10 i ≡ ruling_of (kept_rules f s i)
  begins_early h = refused_by 0 _ (omega (arith, or_first, end_is f at count laid))

  pub ends_late : length f < s.raw + s.size → refused 10 i ≡ ruling_of (kept_rules f s i)
  ends_late h = refused_by 0 _ (omega (arith, or_second))

  module _ (inside : (at + 48 * count ≤ s.raw) × (s.raw + s.size ≤ length f)) where
    ten : ltb s.raw (headers_end f) || ltb (length f) (s.raw + s.size) ≡ false
    ten = neither s.raw (headers_end f) (length f) (s.raw + s.size) (omega (arith, end_is f at count laid))

    pub load_over : 2 ^ 32 < s.load + s.size → refused 11 i ≡ ruling_of (kept_rules f s i)
    load_over h = refused_by 1 _ ((ten, tt), omega (arith, tests))

    pub run_over : (s.load + s.size ≤ 2 ^ 32) × (2 ^ 32 < s.run + s.size) → refused 12 i ≡ ruling_of (kept_rules f s i)
    run_over h = refused_by 2 _ ((ten, (omega (arith, tests), tt)), omega (arith, tests))

    pub sound : (s.load + s.size ≤ 2 ^ 32) × (s.run + s.size ≤ 2 ^ 32) → done tt ≡ ruling_of (kept_rules f s i)
    sound h = passes _ (ten, (omega (arith, tests), (omega (arith, tests), tt)))
