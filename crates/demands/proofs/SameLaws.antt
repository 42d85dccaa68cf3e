-- "Same" is an equivalence that neither order nor cuts touch, and any one address or the entry point tells two programs apart.
use Prim.Native.Nat.{ℕ}
use mathlib.Core.Path.{◌≡◌, refl, sym, ◌∙◌}
use native.Mathlib.Omega.{arith}
use Rattle.fields.specs.Program.{Program}
use Rattle.loader.specs.Addresses.{Disjoint}
use Rattle.demands.specs.Rearranged.{Rearranged}
use Rattle.compare.specs.Same.{nothing, byte, received, Same}
use Rattle.demands.proofs.Receiving.{received_rearranged}

pub same_refl : (p : Program) → Same p p
same_refl p = record { entries = refl; placement = λ a. refl }

pub same_sym : (p q : Program) → Same p q → Same q p
same_sym p q h = record { entries = sym h.entries; placement = λ a. sym (h.placement a) }

pub same_trans : (p q r : Program) → Same p q → Same q r → Same p r
same_trans p q r h k = record { entries = h.entries ∙ k.entries; placement = λ a. h.placement a ∙ k.placement a }

-- the order of the blocks and where they were cut make no difference
pub same_rearranged : (p q : Program) → p.entry ≡ q.entry → Rearranged p.blocks q.blocks → Disjoint p.blocks → Same p q
same_rearranged p q e r d = record { entries = e; placement = received_rearranged r d }

-- Each of these makes a difference.
module _ (p q : Program) where
  pub another_entry : (p.entry ≡ q.entry → ⊥) → Same p q → ⊥
  another_entry h same = h same.entries

  -- At an address that receives v, to run at r, in the one program. A byte that was moved is missing where it was, and added where it is.
  module _ (a v r : ℕ) (here : received p.blocks a ≡ byte v r) where
    pub missing_byte : received q.blocks a ≡ nothing → Same p q → ⊥
    missing_byte there same = let e = same.placement a in let z : ◌≡◌ {A = ℕ} 0 1 = cc in omega arith

    pub added_byte : received q.blocks a ≡ nothing → Same q p → ⊥
    added_byte there same = missing_byte there (same_sym q p same)

    pub another_byte : (w s : ℕ) → received q.blocks a ≡ byte w s → (v ≡ w → ⊥) → Same p q → ⊥
    another_byte w s there h same = h (let e = same.placement a in cc)

    pub another_run_lem : (w s : ℕ) → received q.blocks a ≡ byte w s → (r ≡ s → ⊥) → Same p q → ⊥
    another_run_lem w s there h same = h (let e = same.placement a in cc)
