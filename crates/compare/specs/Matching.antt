-- What the check counts: how many bytes of a block other blocks give as it does. Only the check's own functions cite these words.
use Rattle.std.specs.Prelude.{ℕ, zero, suc, ◌+◌, Bool, true, not, cond, ◌&&◌, ◌||◌, List, [], ◌∷◌, length, take, get_or, eqb}
use Rattle.fields.specs.declared.LoadAddress.{LoadAddress}
use Rattle.fields.specs.declared.RunAddress.{RunAddress}
use Rattle.fields.specs.declared.Part.{Part}
use Rattle.fields.specs.Program.{Block, has}
use Rattle.image.specs.Order.{area_in}
use Rattle.loader.specs.Addresses.{count_below}
use Rattle.compare.specs.Same.{given, alike}

-- every number below n passes the test
unfoldable pub all_below : (ℕ → Bool) → ℕ → Bool
all_below test zero = true
all_below test (suc n) = all_below test n && test n

-- a block as the code has it: its bytes, and its two addresses
abbrev pub block_with : List ℕ → LoadAddress → RunAddress → Block
block_with bytes load run = record { load = load.0; run = run.0; bytes = bytes }

-- a block of an image, by what is read of it and its data area
abbrev pub block_in : ℕ → List ℕ → Part → Block
block_in order area p = block_with (take p.size (area_in order area)) p.load p.run

abbrev pub equal_at : List ℕ → List ℕ → ℕ → Bool
equal_at xs ys i = eqb (get_or xs i 0) (get_or ys i 0)

-- two rows of bytes, as many in both, are equal
unfoldable pub equal_bytes : List ℕ → List ℕ → Bool
equal_bytes xs ys = all_below (equal_at xs ys) (length xs)

-- where b has an address of c, it gives it the same byte and run address
unfoldable pub agree : Block → Block → Bool
agree b c = all_below (λ i. not (has b (c.load + i)) || alike (given b (c.load + i)) (given c (c.load + i))) (length c.bytes)

-- how many addresses of c another block has
unfoldable pub shared_with : Block → Block → ℕ
shared_with b c = count_below (λ i. has b (c.load + i)) (length c.bytes)

-- those addresses, where the two blocks agree on all of them
unfoldable pub matching : Block → Block → ℕ
matching b c = cond (agree b c) (shared_with b c) 0

-- .. by all blocks of a row, which lie apart
unfoldable pub matching_of : List Block → Block → ℕ
matching_of [] c = 0
matching_of (b ∷ bs) c = matching b c + matching_of bs c

-- every byte of c is given as c gives it
unfoldable pub is_matched : List Block → Block → Bool
is_matched bs c = eqb (matching_of bs c) (length c.bytes)

unfoldable pub are_matched : List Block → List Block → Bool
are_matched bs [] = true
are_matched bs (c ∷ cs) = is_matched bs c && are_matched bs cs
