-- A load that is not refused: rule 29 left every block inside the window, and the reader's rules left them disjoint, so placing did all of it. A refused load writes nothing.
use Prim.Native.Nat.{ℕ}
use mathlib.Core.Path.{◌≡◌, refl, sym, ◌∙◌}
use mathlib.Core.Bool.{false}
use mathlib.Core.List.{List, [], ◌∷◌}
use mathlib.Core.Logic.{◌⊎◌, inl, inr}
use native.Mathlib.Omega.{arith}
use lib.ListN.{length}
use Rattle.fields.specs.Rules.{Outcome, refused, done, and_then, Silent}
use Rattle.fields.specs.Program.{Block, Numbered, Source, blocks_of_parts, blocks_of}
use Rattle.fields.proofs.RuleLaws.{done_silent, first_done}
use Rattle.loader.specs.Placing.{is_no_window}
use Rattle.loader.specs.Loading.{window_rules, outside_rules, loading, window_after}
use Rattle.loader.specs.Addresses.{Disjoint, Within}
use Rattle.demands.specs.Loaded.{Loaded}
use Rattle.loader.proofs.LoadingLaws.{all_inside}
use Rattle.demands.proofs.Placed.{loaded}

-- what comes of two steps came of the first and then of the second
pub done_first : {A B : Type 0} (o : Outcome A) (next : A → Outcome B) {b : B} → and_then o next ≡ done b → (a : A) × (o ≡ done a) × (next a ≡ done b)
unfolding and_then
done_first (refused code index) next h = let z : ◌≡◌ {A = ℕ} 0 1 = cc in absurd (omega arith)
done_first (done a) next h = (a, refl, h)

-- rule 29 holds of no part exactly where all blocks are inside
pub silent_within : (base room : ℕ) (parts : List Numbered) → Silent (outside_rules base room parts) → Within base room (blocks_of_parts parts)
unfolding outside_rules
silent_within base room [] h = tt
silent_within base room (p ∷ parts) h = (h.0, silent_within base room parts h.1)

pub within_silent : (base room : ℕ) (parts : List Numbered) → Within base room (blocks_of_parts parts) → Silent (outside_rules base room parts)
unfolding outside_rules
within_silent base room [] h = tt
within_silent base room (p ∷ parts) h = (h.0, within_silent base room parts h.1)

-- what is known of a load that is not refused, whichever reader stands beneath it
pub record Accepted (source : Outcome Source) (base room : ℕ) (bs : List Block) : Type 0 where
  pub given : Source
  pub reads : source ≡ done given
  pub blocks : blocks_of given ≡ bs
  pub window : is_no_window base room ≡ false
  pub within : Within base room bs

pub accepted : (source : Outcome Source) (base room : ℕ) (bs : List Block) → loading source base room ≡ done bs → Accepted source base room bs
unfolding loading blocks_of
accepted source base room bs h =
    let w = first_done (window_rules base room) _ h in
    let b = done_first source _ w.1 in
    let o = done_silent (outside_rules base room b.0.parts) (blocks_of b.0) bs b.2 in
    record {
      given = b.0;
      reads = b.1;
      blocks = o.1;
      window = w.0.0;
      within = rw o.1 at (silent_within base room b.0.parts o.0);
    }

-- a source that was read is loaded where the window is one and all blocks are inside, and refused otherwise
module _ (source : Outcome Source) (base room : ℕ) (s : Source) (reads : source ≡ done s) where
  pub loads : is_no_window base room ≡ false → Within base room (blocks_of s) → loading source base room ≡ done (blocks_of s)
  unfolding blocks_of
  loads window within = all_inside source base room window reads (within_silent base room s.parts within)

  pub loads_or_not : ((code : ℕ) × (index : ℕ) × (loading source base room ≡ refused code index)) ⊎ ((is_no_window base room ≡ false) × Within base room (blocks_of s))
  loads_or_not = go (loading source base room) refl
    where
      go : (o : Outcome (List Block)) → loading source base room ≡ o → ((code : ℕ) × (index : ℕ) × (loading source base room ≡ refused code index)) ⊎ ((is_no_window base room ≡ false) × Within base room (blocks_of s))
      go (refused code index) e = inl (code, index, e)
      go (done bs) e =
          let a = accepted source base room bs e in
          let same : a.given ≡ s = let q = sym a.reads ∙ reads in cc in
          inr (a.window, rw (← same, a.blocks) a.within)

-- over any reader whose blocks are disjoint
pub load_loaded :
    (source : Outcome Source) (base : ℕ) (window : List ℕ) (bs : List Block)
    → ((s : Source) → source ≡ done s → Disjoint (blocks_of s))
    → loading source base (length window) ≡ done bs
    → Loaded base window (window_after (loading source base (length window)) base window) bs
unfolding window_after
load_loaded source base window bs disjoint h =
    let a = accepted source base (length window) bs h in
    rw h (loaded base window bs (rw a.blocks at (disjoint a.given a.reads)) a.within)

-- a refused load leaves the window as it was
pub refused_kept : (o : Outcome (List Block)) (base : ℕ) (window : List ℕ) {code index : ℕ} → o ≡ refused code index → window_after o base window ≡ window
unfolding window_after
refused_kept o base window h = rw h
