-- Blocks one after the other: what one more of them adds to the window, to the figure and to the rules.
use Prim.Native.Nat.{ℕ, zero, suc, ◌+◌, ◌-◌, ◌<◌}
use mathlib.Core.Path.{◌≡◌, refl, ap, sym, ◌∙◌}
use mathlib.Core.Bool.{Bool, true, false}
use mathlib.Core.List.{List, [], ◌∷◌, ◌++◌, map-append}
use native.Mathlib.Nat.{add-zero}
use native.Mathlib.Omega.{arith}
use lib.ListN.{length}
use Rattle.fields.specs.Counting.{joined}
use Rattle.fields.specs.Rules.{Rule, rule, Outcome, refused, unless, ruling_of, Silent}
use Rattle.fields.specs.Patch.{patch}
use Rattle.fields.specs.Program.{Block, Numbered, blocks_of_parts}
use Rattle.fields.proofs.CountingLaws.{joined_more}
use Rattle.fields.proofs.PatchLaws.{length-patch}
use Rattle.fields.proofs.RuleLaws.{silent_append, silent_at, refused_at}
use Rattle.loader.specs.Placing.{is_outside, placed, sizes_of}
use Rattle.loader.specs.Loading.{outside_rules}

pub placed_append : (base : ℕ) (w : List ℕ) (bs cs : List Block) → placed base w (bs ++ cs) ≡ placed base (placed base w bs) cs
unfolding placed
placed_append base w [] cs = refl
placed_append base w (b ∷ bs) cs = placed_append base (patch w (b.load - base) b.bytes) bs cs

pub placed_none : (base : ℕ) (w : List ℕ) → placed base w [] ≡ w
unfolding placed
placed_none base w = refl

pub placed_one : (base : ℕ) (w : List ℕ) (b : Block) → placed base w (b ∷ []) ≡ patch w (b.load - base) b.bytes
unfolding placed
placed_one base w b = refl

pub length_placed : (base : ℕ) (w : List ℕ) (bs : List Block) → length (placed base w bs) ≡ length w
unfolding placed
length_placed base w [] = refl
length_placed base w (b ∷ bs) = length_placed base (patch w (b.load - base) b.bytes) bs ∙ length-patch w (b.load - base) b.bytes

pub sizes_append : (bs cs : List Block) → sizes_of (bs ++ cs) ≡ sizes_of bs + sizes_of cs
unfolding sizes_of
sizes_append [] cs = omega arith
sizes_append (b ∷ bs) cs = rw (sizes_append bs cs) (omega arith)

pub sizes_none : sizes_of [] ≡ 0
unfolding sizes_of
sizes_none = refl

pub sizes_one : (b : Block) → sizes_of (b ∷ []) ≡ length b.bytes
unfolding sizes_of
sizes_one b = add-zero (length b.bytes)

pub outside_append : (base room : ℕ) (ps qs : List Numbered) → outside_rules base room (ps ++ qs) ≡ outside_rules base room ps ++ outside_rules base room qs
unfolding outside_rules
outside_append base room [] qs = refl
outside_append base room (p ∷ ps) qs = ap (λ (l : List Rule). rule (is_outside base room p.block) 29 p.number ∷ l) (outside_append base room ps qs)

pub outside_none : (base room : ℕ) → Silent (outside_rules base room [])
unfolding outside_rules
outside_none base room = tt

-- the rules of parts that are made number by number
pub outside_joined : (base room : ℕ) (g : ℕ → List Numbered) (n : ℕ) → outside_rules base room (joined g n) ≡ joined (λ i. outside_rules base room (g i)) n
unfolding joined
outside_joined base room g zero = unfold outside_rules in refl
outside_joined base room g (suc n) =
    outside_append base room (joined g n) (g n) ∙ rw (outside_joined base room g n)

-- every rule on parts outside is rule 29
pub outside_code : {A : Type 0} (base room : ℕ) (ps : List Numbered) (a : A) {code index : ℕ} → unless (outside_rules base room ps) a ≡ refused code index → code ≡ 29
unfolding outside_rules unless
outside_code base room [] a h = let z : ◌≡◌ {A = ℕ} 0 1 = cc in absurd (omega arith)
outside_code {A} base room (p ∷ ps) a {code} {index} h = go (is_outside base room p.block) h (λ k. outside_code base room ps a k)
  where
    go : (t : Bool) → ◌≡◌ {A = Outcome A} (elim t [ true ↦ refused 29 p.number | false ↦ unless (outside_rules base room ps) a ]) (refused code index) → (unless (outside_rules base room ps) a ≡ refused code index → code ≡ 29) → code ≡ 29
    go true k ih = cc
    go false k ih = ih k

-- Parts that are made number by number: one turn of a loop over them.
module _ (g : ℕ → List Numbered) (i : ℕ) where
  pub placed_turn : (base : ℕ) (w : List ℕ) → placed base (placed base w (blocks_of_parts (joined g i))) (blocks_of_parts (g i)) ≡ placed base w (blocks_of_parts (joined g (i + 1)))
  placed_turn base w =
      sym (placed_append base w (blocks_of_parts (joined g i)) (blocks_of_parts (g i)))
      ∙ rw (joined_more g i, map-append)

  pub sizes_turn : sizes_of (blocks_of_parts (joined g i)) + sizes_of (blocks_of_parts (g i)) ≡ sizes_of (blocks_of_parts (joined g (i + 1)))
  sizes_turn = sym (sizes_append (blocks_of_parts (joined g i)) (blocks_of_parts (g i))) ∙ rw (joined_more g i, map-append)

  pub fits_turn : (base room : ℕ) → Silent (outside_rules base room (joined g i)) → Silent (outside_rules base room (g i)) → Silent (outside_rules base room (joined g (i + 1)))
  fits_turn base room h k =
      rw (joined_more g i, outside_append base room (joined g i) (g i))
      (silent_append (outside_rules base room (joined g i)) (outside_rules base room (g i)) h k)

  -- of all that fit, each does
  pub fits_at : (base room n : ℕ) → i < n → Silent (outside_rules base room (joined g n)) → Silent (outside_rules base room (g i))
  fits_at base room n h k = silent_at (λ j. outside_rules base room (g j)) n i h (rw (outside_joined base room g n) at k)

  -- the first that does not decides for all
  pub fails_at : {A B : Type 0} (base room n : ℕ) (a : A) (b : B) {code index : ℕ} → i < n → Silent (outside_rules base room (joined g i)) → unless (outside_rules base room (g i)) a ≡ refused code index → unless (outside_rules base room (joined g n)) b ≡ refused code index
  fails_at base room n a b h k e =
      rw (outside_joined base room g n) (refused_at (λ j. outside_rules base room (g j)) n i a b h (rw (outside_joined base room g i) at k) e)

-- before the first turn
pub none_placed : (g : ℕ → List Numbered) (base : ℕ) (w : List ℕ) → placed base w (blocks_of_parts (joined g 0)) ≡ w
unfolding joined placed
none_placed g base w = refl

pub none_counted : (g : ℕ → List Numbered) → sizes_of (blocks_of_parts (joined g 0)) ≡ 0
unfolding joined sizes_of
none_counted g = refl

pub none_asked : (g : ℕ → List Numbered) (base room : ℕ) → Silent (outside_rules base room (joined g 0))
unfolding joined outside_rules
none_asked g base room = tt

-- in a loop over parts, the first that does not fit ends it
pub first_fails : (g : ℕ → List Numbered) (base room n i : ℕ) {code index : ℕ} → i < n → Silent (outside_rules base room (joined g i)) → refused code index ≡ ruling_of (outside_rules base room (g i)) → refused code index ≡ ruling_of (outside_rules base room (joined g n))
first_fails g base room n i h s e = sym (fails_at g i base room n tt tt h s (sym e))
