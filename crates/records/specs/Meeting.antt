-- Records may meet neither a block nor each other: the part of rules 13 and 27 that comes behind the sections' or the blocks' own.
use Rattle.std.specs.Prelude.{ℕ, ◌+◌, Bool, ◌||◌, List, [], ◌∷◌, length, get_or}
use Rattle.fields.specs.Counting.{joined}
use Rattle.fields.specs.Rules.{Rule, rule}
use Rattle.fields.specs.Program.{Block, no_block, meets_before, meets_any}

-- record r of a row shares an address with one of the blocks, or with an earlier record
unfoldable pub record_meets : List Block → List Block → ℕ → Bool
record_meets bs records r = meets_any bs (get_or records r no_block) || meets_before records r

-- .. which is refused with the code of its reader; records are counted on from the number `next`
abbrev pub record_meeting_rule : ℕ → ℕ → List Block → List Block → ℕ → List Rule
record_meeting_rule code next bs records r = rule (record_meets bs records r) code (next + r) ∷ []

unfoldable pub record_meeting_rules : ℕ → ℕ → List Block → List Block → List Rule
record_meeting_rules code next bs records = joined (record_meeting_rule code next bs records) (length records)
