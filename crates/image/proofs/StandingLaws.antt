-- What stands at a place: rule 20, rule 21 of the size field or of the block, the end flag, or the block.
use Prim.Native.Nat.{ℕ, ◌+◌, ◌<◌, ◌≤◌}
use mathlib.Core.Path.{◌≡◌, sym, ◌∙◌}
use mathlib.Core.List.{List}
use native.Mathlib.Omega.{arith}
use lib.ListN.{length, drop, length-drop}
use borrow.Author.Tests.{lt-ltb, le-ltb, eq-eqb, ne_eqb}
use Rattle.fields.specs.Rules.{refused, done, unless}
use Rattle.image.specs.Layout.{span_of}
use Rattle.fields.specs.Program.{no_block}
use Rattle.image.specs.Reading.{size_here, block_here}
use Rattle.image.specs.Asking.{told_of, asked_of}
use Rattle.image.specs.Standing.{stands_at, standing}
use Rattle.image.specs.Steps.{Fields}
use Rattle.image.specs.declared.walking.BlockHeader.{BlockHeader}
use Rattle.image.proofs.TableLaws.{length_here}

module _ (s : List ℕ) (place : ℕ) where
  abbrev rest : List ℕ
  rest = drop place s

  pub image_long : 16777216 < length s → refused 20 0 ≡ asked_of (standing s place)
  unfolding asked_of standing unless
  image_long h = rw (lt-ltb _ _ h)

  module _ (short : length s ≤ 16777216) where
    pub field_cut : length s < place + 4 → refused 21 0 ≡ asked_of (standing s place)
    unfolding asked_of standing unless
    field_cut h =
        let cut : length rest < 4 = omega (arith, length-drop place s) in
        rw (le-ltb _ _ short, lt-ltb _ _ cut)

    module _ (begun : place + 4 ≤ length s) where
      field : 4 ≤ length rest
      field = omega (arith, length-drop place s)

      -- where the size field is 0
      module _ (e : size_here rest ≡ 0) where
        flag_is : stands_at s place ≡ record { block = no_block; raw = 0 }
        unfolding stands_at
        flag_is = rw (eq-eqb _ _ e, stands_at)

        pub flag_stands : standing s place ≡ done (record { block = no_block; raw = 0 })
        unfolding standing unless
        flag_stands = rw (le-ltb _ _ short, le-ltb _ _ field, eq-eqb _ _ e, flag_is)

        pub flag_told : done (record { size = 0; load = record { 0 = 0 }; run = record { 0 = 0 }; raw = record { 0 = 0 } }) ≡ asked_of (standing s place)
        unfolding asked_of told_of
        flag_told = rw flag_stands

      -- where it is not
      module _ (real : 0 < size_here rest) where
        no_flag : size_here rest ≡ 0 → ⊥
        no_flag e = omega arith

        block_is : stands_at s place ≡ record { block = block_here rest; raw = place + 12 }
        unfolding stands_at
        block_is = rw (ne_eqb _ _ no_flag, stands_at)

        pub block_cut : length s < place + span_of (size_here rest) → refused 21 0 ≡ asked_of (standing s place)
        unfolding asked_of standing unless
        block_cut h =
            let cut : length rest < span_of (size_here rest) = omega (arith, length-drop place s) in
            rw (le-ltb _ _ short, le-ltb _ _ field, ne_eqb _ _ no_flag, lt-ltb _ _ cut)

        module _ (fits : place + span_of (size_here rest) ≤ length s) where
          whole : span_of (size_here rest) ≤ length rest
          whole = omega (arith, length-drop place s)

          pub block_stands : standing s place ≡ done (record { block = block_here rest; raw = place + 12 })
          unfolding standing unless
          block_stands = rw (le-ltb _ _ short, le-ltb _ _ field, ne_eqb _ _ no_flag, le-ltb _ _ whole, block_is)

          pub block_told : (b : BlockHeader) (number : ℕ) → Fields s (record { at = place; number = number }) b → done b.part ≡ asked_of (standing s place)
          unfolding asked_of told_of block_here
          block_told b number f =
              let size : b.part.size ≡ length (block_here rest).bytes = f.size ∙ sym (length_here rest whole) in
              rw block_stands (λ i. done (record { size = size i; load = record { 0 = f.load i }; run = record { 0 = f.run i }; raw = record { 0 = f.raw i } }))
