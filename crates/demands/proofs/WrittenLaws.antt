-- Rows of blocks that write the same addresses: both are inside a window or neither is, and both place as many bytes.
use Prim.Native.Nat.{ℕ, ◌+◌, ◌-◌, ◌<◌, ◌≤◌}
use mathlib.Core.Path.{◌≡◌, refl, ap, sym, fun_ext, ◌∙◌}
use mathlib.Core.Bool.{Bool, true, or-true}
use mathlib.Core.List.{List, [], ◌∷◌}
use native.Mathlib.Omega.{arith}
use lib.ListN.{length}
use Rattle.fields.specs.Program.{Block, has}
use Rattle.loader.specs.Placing.{sizes_of}
use Rattle.loader.specs.Addresses.{is_written, Each, Disjoint, Within, count_below}
use Rattle.demands.specs.Loaded.{Proper}
use Rattle.loader.proofs.AddressLaws.{on, not_both, has_range, has_in, inside_range, range_inside, each_of, each_both, figure_counts}

-- each block of a row is in the row
each_written : (bs : List Block) → Each (λ b. (a : ℕ) → has b a ≡ true → is_written bs a ≡ true) bs
unfolding is_written
each_written [] = tt
each_written (b ∷ bs) = (λ a h. rw h, each_of bs (λ c f a h. rw (f a h) (or-true (has b a))) (each_written bs))

-- what is written from inside a window is in the window
written_within : (base room : ℕ) (bs : List Block) → Within base room bs → (a : ℕ) → is_written bs a ≡ true → (base ≤ a) × (a < base + room)
unfolding is_written
written_within base room [] within a h = absurd (not_both h refl)
written_within base room (b ∷ bs) within a h =
    on
    (has b a)
    (λ y. omega (arith, has_range b a y, inside_range base room b within.0))
    (λ n. written_within base room bs within.1 a (sym (rw n) ∙ h))

module _ (bs cs : List Block) (same : (a : ℕ) → is_written bs a ≡ is_written cs a) where
  pub within_same : Proper bs → (base room : ℕ) → Within base room cs → Within base room bs
  within_same proper base room within =
      each_both bs
      (λ b some fine.
      let first = written_within base room cs within b.load (sym (same b.load) ∙ some b.load (has_in b b.load (omega arith) (omega arith))) in
      let last = b.load + (length b.bytes - 1) in
      let end = written_within base room cs within last (sym (same last) ∙ some last (has_in b last (omega arith) (omega arith))) in
      range_inside base room b first.0 (omega arith))
      (each_written bs)
      proper.filled

  pub figure_same : Disjoint bs → Disjoint cs → (base room : ℕ) → Within base room bs → Within base room cs → sizes_of bs ≡ sizes_of cs
  figure_same d e base room v w =
      figure_counts base room bs d v
      ∙ ap (λ (test : ℕ → Bool). count_below test room) (fun_ext (λ i. same (base + i)))
      ∙ sym (figure_counts base room cs e w)
