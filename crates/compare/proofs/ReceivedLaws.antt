-- What an address receives: something exactly where a block has it.
use Prim.Native.Nat.{ℕ}
use mathlib.Core.Path.{◌≡◌, refl, sym, ◌∙◌}
use mathlib.Core.Bool.{true, false}
use mathlib.Core.List.{List, [], ◌∷◌}
use native.Mathlib.Omega.{arith}
use Rattle.fields.specs.Program.{Block, has}
use Rattle.fields.proofs.TestLaws.{neither_holds}
use Rattle.loader.specs.Addresses.{is_written}
use Rattle.loader.proofs.AddressLaws.{on, not_both}
use Rattle.compare.specs.Same.{nothing, given, received}

-- One block more in front.
module _ (b : Block) (bs : List Block) (a : ℕ) where
  pub received_here : has b a ≡ true → received (b ∷ bs) a ≡ given b a
  unfolding received
  received_here h = rw (h, received)

  pub received_behind : has b a ≡ false → received (b ∷ bs) a ≡ received bs a
  unfolding received
  received_behind h = rw (h, received)

given_some : (b : Block) (a : ℕ) → given b a ≡ nothing → ⊥
unfolding given
given_some b a h = let q : ◌≡◌ {A = ℕ} 0 1 = cc in omega arith

-- an address receives nothing where no block has it, and something where one does
pub received_none : (bs : List Block) (a : ℕ) → is_written bs a ≡ false → received bs a ≡ nothing
unfolding is_written
received_none [] a h = unfold received in refl
received_none (b ∷ bs) a h =
    let k = neither_holds (has b a) (is_written bs a) h in
    received_behind b bs a k.0 ∙ received_none bs a k.1

pub received_some : (bs : List Block) (a : ℕ) → is_written bs a ≡ true → received bs a ≡ nothing → ⊥
unfolding is_written
received_some [] a h k = not_both h refl
received_some (b ∷ bs) a h k =
    on
    (has b a)
    (λ y. given_some b a (sym (received_here b bs a y) ∙ k))
    (λ n. received_some bs a (sym (rw n) ∙ h) (sym (received_behind b bs a n) ∙ k))
