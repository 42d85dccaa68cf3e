-- The blocks of an image that is read: no two share an address, and none ends past 2 ^ 32, by what its reader states.
use Prim.Native.Nat.{ℕ, suc, ◌^◌, ◌<◌}
use mathlib.Core.List.{List, [], ◌∷◌}
use mathlib.Core.Logic.{⊎_elim}
use native.Mathlib.Omega.{arith}
use lib.ListN.{length, get_or}
use Rattle.fields.specs.Program.{Block, no_block}
use Rattle.image.specs.Reading.{blocks_in}
use Rattle.image.specs.Walking.{block_at, Apart, Accepted}
use Rattle.image.proofs.PartLaws.{block_at_is, block_ends}
use Rattle.loader.specs.Addresses.{Each, Misses, Disjoint}
use Rattle.loader.proofs.AddressLaws.{has_range, has_out, range_inside}
use Rattle.compare.proofs.MatchLaws.{Spread}

-- of two blocks that lie apart, neither has an address of the other
pub apart_misses : (b c : Block) → Apart b c → Misses b c
apart_misses b c h a k =
    let q = has_range b a k in
    has_out c a (λ u v. ⊎_elim (λ l. omega arith) (λ l. omega arith) h)

each_at : (P : Block → Type 0) (bs : List Block) → ((i : ℕ) → i < length bs → P (get_or bs i no_block)) → Each P bs
each_at P [] h = tt
each_at P (b ∷ bs) h = (h 0 (omega arith), each_at P bs (λ i l. h (suc i) (omega arith)))

disjoint_at : (bs : List Block) → ((i j : ℕ) → i < j → j < length bs → Apart (get_or bs i no_block) (get_or bs j no_block)) → Disjoint bs
disjoint_at [] h = tt
disjoint_at (b ∷ bs) h = (
  each_at (Misses b) bs (λ j l. apart_misses b (get_or bs j no_block) (h 0 (suc j) (omega arith) (omega arith))),
  disjoint_at bs (λ i j l m. h (suc i) (suc j) (omega arith) (omega arith)),
)

pub image_spread : (s : List ℕ) {entry count : ℕ} → Accepted s entry count → Spread (2 ^ 32) (blocks_in s)
image_spread s a =
    record {
      apart = disjoint_at (blocks_in s) (λ i j l m. rw (← (block_at_is s i), ← (block_at_is s j)) (a.apart i j l (omega (arith, a.count_is))));
      ended = each_at _ (blocks_in s) (λ i l. rw (← (block_at_is s i)) (range_inside 0 (2 ^ 32) (block_at s i) (omega arith) (block_ends s i l a.framed)));
    }
