-- The same bytes in another row of blocks: in another order, or cut at other places.
use Rattle.std.specs.Prelude.{ℕ, ◌+◌, ◌≡◌, List, ◌∷◌, ◌++◌, length, take, drop}
use Rattle.fields.specs.Program.{Block}

-- c begins where b ends, in load and in run
pub record FollowsOn (b c : Block) : Type 0 where
  pub load : c.load ≡ b.load + length b.bytes
  pub run : c.run ≡ b.run + length b.bytes

-- b and c as one block
abbrev pub joint : Block → Block → Block
joint b c = record { load = b.load; run = b.run; bytes = b.bytes ++ c.bytes }

-- a block's first n bytes, and the rest of it
abbrev pub front : ℕ → Block → Block
front n b = record { load = b.load; run = b.run; bytes = take n b.bytes }

abbrev pub back : ℕ → Block → Block
back n b = record { load = b.load + n; run = b.run + n; bytes = drop n b.bytes }

-- neighbours change places, or two that follow on are joined, or one is cut in two, anywhere and any number of times
pub data Rearranged : List Block → List Block → Type 0 where
  as_it_was : {bs : List Block} → Rearranged bs bs
  behind : (b : Block) {bs cs : List Block} → Rearranged bs cs → Rearranged (b ∷ bs) (b ∷ cs)
  swapped : (b c : Block) {bs : List Block} → Rearranged (b ∷ c ∷ bs) (c ∷ b ∷ bs)
  joined : (b c : Block) {bs : List Block} → FollowsOn b c → Rearranged (b ∷ c ∷ bs) (joint b c ∷ bs)
  cut : (b c : Block) {bs : List Block} → FollowsOn b c → Rearranged (joint b c ∷ bs) (b ∷ c ∷ bs)
  then : {bs cs ds : List Block} → Rearranged bs cs → Rearranged cs ds → Rearranged bs ds
