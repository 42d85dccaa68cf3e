-- When two programs are the same: what each address receives, from whichever block it comes.
use Rattle.std.specs.Prelude.{ℕ, ◌+◌, ◌-◌, ◌≡◌, Bool, true, false, ◌&&◌, List, [], ◌∷◌, ◌++◌, length, get_or, eqb}
use Rattle.fields.specs.Counting.{joined}
use Rattle.fields.specs.Program.{Block, Program, has}

-- what an address receives: a byte with its run address, or nothing
pub data Received : Type 0 where
  nothing : Received
  byte : ℕ → ℕ → Received

-- from one block: the byte at a has the block's run address plus a minus the load address
unfoldable pub given : Block → ℕ → Received
given b a = byte (get_or b.bytes (a - b.load) 0) (b.run + (a - b.load))

-- from a row of blocks: the first that has the address
unfoldable pub received : List Block → ℕ → Received
received [] a = nothing
received (b ∷ bs) a = elim (has b a) [ true ↦ given b a | false ↦ received bs a ]

-- equal entry points, and for every address the same byte and run address from both, or nothing from both
pub record Same (p q : Program) : Type 0 where
  pub entries : p.entry ≡ q.entry
  pub placement : (a : ℕ) → received p.blocks a ≡ received q.blocks a

-- The same, computed: only addresses of a block of either side have to be looked at.
unfoldable pub alike : Received → Received → Bool
alike nothing nothing = true
alike nothing (byte v r) = false
alike (byte v r) nothing = false
alike (byte v r) (byte v' r') = eqb v v' && eqb r r'

unfoldable pub addresses_of : List Block → List ℕ
addresses_of [] = []
addresses_of (b ∷ bs) = joined (λ i. (b.load + i) ∷ []) (length b.bytes) ++ addresses_of bs

unfoldable pub alike_at : List Block → List Block → List ℕ → Bool
alike_at bs cs [] = true
alike_at bs cs (a ∷ more) = alike (received bs a) (received cs a) && alike_at bs cs more

unfoldable pub same_placement : List Block → List Block → Bool
same_placement bs cs = alike_at bs cs (addresses_of bs ++ addresses_of cs)
