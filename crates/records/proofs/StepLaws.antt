-- One record of a table: where the table ends, where it is unsound, and where it goes on.
use Prim.Native.Nat.{ℕ, zero, suc, ◌+◌, ◌^◌, ◌<◌, ◌≤◌}
use mathlib.Core.Path.{◌≡◌, refl, sym, ◌∙◌}
use mathlib.Core.Bool.{Bool, true, false, true≢false}
use mathlib.Core.List.{List, [], ◌∷◌}
use native.Mathlib.Omega.{arith}
use lib.ListN.{length}
use lib.Dec.{ltb, eqb}
use borrow.Author.Tests.{ltb-false, lt-ltb, le-ltb, eq-eqb, ne_eqb}
use Rattle.fields.proofs.TestLaws.{neither_holds, or_first, or_second}
use Rattle.records.specs.Records.{size_here, address_here, record_here, after_record, is_bad, are_sound, records_from}

-- A record is whole, and its bytes pass no last address.
pub record Whole (rest : List ℕ) : Type 0 where
  pub real : 0 < size_here rest
  pub within : 8 + size_here rest ≤ length rest
  pub loads : address_here rest + size_here rest ≤ 2 ^ 32

module _ (rest : List ℕ) where
  bad_short : length rest < 8 + size_here rest → is_bad rest ≡ true
  unfolding is_bad
  bad_short h = or_first _ _ _ h

  bad_far : 2 ^ 32 < address_here rest + size_here rest → is_bad rest ≡ true
  unfolding is_bad
  bad_far h = or_second (2 ^ 32) (address_here rest + size_here rest) (ltb (length rest) (8 + size_here rest)) h

  whole_good : Whole rest → is_bad rest ≡ false
  unfolding is_bad
  whole_good w = rw (le-ltb _ _ w.within, le-ltb _ _ w.loads)

  good_whole : 0 < size_here rest → is_bad rest ≡ false → Whole rest
  unfolding is_bad
  good_whole h e =
      let k = neither_holds (ltb (length rest) (8 + size_here rest)) (ltb (2 ^ 32) (address_here rest + size_here rest)) e in
      record { real = h; within = ltb-false _ _ k.0; loads = ltb-false _ _ k.1 }

  -- One law for each way in which a table goes on or ends.

  pub sound_cut : (turns : ℕ) → length rest < 4 → are_sound turns rest ≡ false
  unfolding are_sound
  sound_cut zero h = refl
  sound_cut (suc turns) h = rw (lt-ltb (length rest) 4 h)

  pub sound_end : (turns : ℕ) → 4 ≤ length rest → size_here rest ≡ 0 → are_sound (suc turns) rest ≡ true
  unfolding are_sound
  sound_end turns h e = rw (le-ltb (length rest) 4 h, eq-eqb (size_here rest) 0 e)

  pub records_end : (turns : ℕ) → size_here rest ≡ 0 → records_from turns rest ≡ []
  unfolding records_from
  records_end zero e = refl
  records_end (suc turns) e = rw (eq-eqb (size_here rest) 0 e, records_from)

  real_eqb : 0 < size_here rest → eqb (size_here rest) 0 ≡ false
  real_eqb h = ne_eqb (size_here rest) 0 (λ e. omega arith)

  sound_bad : (turns : ℕ) → 4 ≤ length rest → 0 < size_here rest → is_bad rest ≡ true → are_sound (suc turns) rest ≡ false
  unfolding are_sound
  sound_bad turns h k e = rw (le-ltb (length rest) 4 h, real_eqb k, e)

  pub sound_short : (turns : ℕ) → 4 ≤ length rest → 0 < size_here rest → length rest < 8 + size_here rest → are_sound (suc turns) rest ≡ false
  sound_short turns h k l = sound_bad turns h k (bad_short l)

  pub sound_far : (turns : ℕ) → 4 ≤ length rest → 0 < size_here rest → 2 ^ 32 < address_here rest + size_here rest → are_sound (suc turns) rest ≡ false
  sound_far turns h k l = sound_bad turns h k (bad_far l)

  pub sound_on : (turns : ℕ) → Whole rest → are_sound (suc turns) rest ≡ are_sound turns (after_record rest)
  unfolding are_sound
  sound_on turns w = rw (le-ltb (length rest) 4 (omega (arith, w.within)), real_eqb w.real, whole_good w)

  pub records_on : (turns : ℕ) → 0 < size_here rest → records_from (suc turns) rest ≡ record_here rest ∷ records_from turns (after_record rest)
  unfolding records_from
  records_on turns h = rw (real_eqb h, records_from)

  -- What is known of a sound table.

  pub sound_long : (turns : ℕ) → are_sound turns rest ≡ true → 4 ≤ length rest
  unfolding are_sound
  sound_long zero e = absurd (true≢false (sym e))
  sound_long (suc turns) e = go (ltb (length rest) 4) refl
    where
      go : (t : Bool) → ltb (length rest) 4 ≡ t → 4 ≤ length rest
      go true q = absurd (true≢false (sym e ∙ rw q))
      go false q = ltb-false _ _ q

  pub sound_whole : (turns : ℕ) → are_sound (suc turns) rest ≡ true → 0 < size_here rest → Whole rest
  sound_whole turns e h = go (is_bad rest) refl
    where
      go : (t : Bool) → is_bad rest ≡ t → Whole rest
      go true q = absurd (true≢false (sym e ∙ sound_bad turns (sound_long (suc turns) e) h q))
      go false q = good_whole h q
