-- Why a COFF file is refused: rules 1 to 13 and 16, in the order in which they are asked. Whether a section is kept is a test by its number.
use Rattle.std.specs.Prelude.{ℕ, ◌+◌, ◌^◌, Bool, not, cond, ◌&&◌, ◌||◌, List, [], ◌∷◌, ◌++◌, length, ltb, eqb}
use Rattle.fields.specs.Counting.{joined, any_below}
use Rattle.fields.specs.Rules.{Rule, rule}
use Rattle.fields.specs.Options.{Options}
use Rattle.fields.specs.Program.{share}
use Rattle.coff.specs.File.{version, section_count, optional_size, file_flags, target, magic, headers_end, Section, section_of}
use Rattle.coff.specs.Names.{has_unreadable_name}
use Rattle.coff.specs.Kept.{has_flag, is_kept, keeps}

-- of the file as a whole
abbrev pub head_rules : List ℕ → List Rule
head_rules f =
    rule (ltb 16777216 (length f)) 1 0
    ∷ rule (ltb (length f) 22) 2 0
    ∷ rule (not (eqb (version f) 0xC2)) 3 0
    ∷ rule (not (eqb (target f) 0x99)) 4 0
    ∷ rule (not (eqb (optional_size f) 0 || eqb (optional_size f) 28)) 5 0
    ∷ rule (not (has_flag (file_flags f) 0x2)) 6 0
    ∷ rule (ltb 256 (section_count f)) 7 0
    ∷ rule (ltb (length f) (headers_end f)) 8 0
    ∷ rule (eqb (optional_size f) 28 && not (eqb (magic f) 0x108)) 9 0
    ∷ []

-- of one section, which is kept: its raw data lies between the headers and the file's end, and both its ranges end at 2 ^ 32 or below
abbrev pub kept_rules : List ℕ → Section → ℕ → List Rule
kept_rules f s i =
    rule (ltb s.raw (headers_end f) || ltb (length f) (s.raw + s.size)) 10 i
    ∷ rule (ltb (2 ^ 32) (s.load + s.size)) 11 i
    ∷ rule (ltb (2 ^ 32) (s.run + s.size)) 12 i
    ∷ []

-- nothing is asked of a section that is not kept
unfoldable pub section_rules : (ℕ → Bool) → List ℕ → ℕ → List Rule
section_rules keep f i = cond (keep i) (kept_rules f (section_of f i) i) []

-- a name is wanted, of a section that is otherwise kept, and cannot be read; without patterns none is wanted
unfoldable pub lacks_name : Options → List ℕ → ℕ → Bool
lacks_name o f i = ltb 0 (length o.patterns) && (is_kept (section_of f i) && has_unreadable_name f i)

-- all that is asked of one section: first its name
unfoldable pub rules_by : Bool → (ℕ → Bool) → List ℕ → ℕ → List Rule
rules_by lacks keep f i = rule lacks 16 0 ∷ section_rules keep f i

abbrev pub rules_of : Options → List ℕ → ℕ → List Rule
rules_of o f i = rules_by (lacks_name o f i) (keeps o f) f i

-- two load ranges share an address
unfoldable pub share_load : Section → Section → Bool
share_load s t = share s.load s.size t.load t.size

-- two sections are kept, and their load ranges share an address
unfoldable pub do_meet : (ℕ → Bool) → List ℕ → ℕ → ℕ → Bool
do_meet keep f i j = keep i && (keep j && share_load (section_of f i) (section_of f j))

unfoldable pub meets_earlier : (ℕ → Bool) → List ℕ → ℕ → Bool
meets_earlier keep f j = any_below (λ i. do_meet keep f i j) j

abbrev pub overlap_rules : (ℕ → Bool) → List ℕ → ℕ → List Rule
overlap_rules keep f j = rule (meets_earlier keep f j) 13 j ∷ []

-- the whole table: the file; then section by section; then the later section of each pair that meets
abbrev pub rules_with : (ℕ → List Rule) → (ℕ → Bool) → List ℕ → List Rule
rules_with rows keep f =
    head_rules f
    ++ (joined rows (section_count f) ++ joined (overlap_rules keep f) (section_count f))

unfoldable pub coff_rules : Options → List ℕ → List Rule
coff_rules o f = rules_with (rules_of o f) (keeps o f) f
