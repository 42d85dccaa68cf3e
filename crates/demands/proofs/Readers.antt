-- Both readers hand on blocks that are disjoint and not empty: rules 13 and 27 refuse any two that meet, and no size is 0. So each load does all that `Loaded` says.
use Prim.Native.Nat.{ℕ, suc, ◌<◌}
use mathlib.Core.Path.{◌≡◌}
use mathlib.Core.Bool.{false}
use mathlib.Core.List.{List, [], ◌∷◌}
use native.Mathlib.Omega.{arith}
use lib.ListN.{length, get_or}
use Rattle.fields.specs.Number.{Bytes}
use Rattle.fields.specs.Rules.{done}
use Rattle.fields.specs.Options.{Options, option_rules}
use Rattle.fields.specs.Program.{Block, Program, Source, blocks_of, program_of, meet, no_block}
use Rattle.fields.proofs.RuleLaws.{first_silent, first_done}
use Rattle.coff.specs.Reading.{read_coff}
use Rattle.image.specs.Order.{undone}
use Rattle.image.specs.Reading.{read_image}
use Rattle.image.proofs.OrderLaws.{bytes_undone}
use Rattle.demands.specs.Valid.{EachSound, Apart, Valid}
use Rattle.demands.proofs.Sharing.{share_is}
use Rattle.demands.proofs.Exact.{read_is_valid}
use Rattle.demands.proofs.CoffWithin.{coff_is_sound, coff_is_apart}
use Rattle.loader.specs.Loading.{loading, loading_image, loading_coff, window_after}
use Rattle.loader.specs.Addresses.{Each, Misses, Disjoint}
use Rattle.demands.specs.Loaded.{Proper, Loaded}
use Rattle.loader.proofs.AddressLaws.{not_both, has_range, has_out}
use Rattle.demands.proofs.Loads.{load_loaded}

-- of two blocks that do not meet, neither has an address of the other
clear : (b c : Block) → 0 < length b.bytes → 0 < length c.bytes → meet b c ≡ false → Misses b c
unfolding meet
clear b c s t h a k =
    has_out c a
    (λ u v. not_both ((share_is b.load (length b.bytes) c.load (length c.bytes) s t).1 (a, has_range b a k, (u, v))) h)

each_filled : (bs : List Block) → EachSound bs → Each (λ b. 0 < length b.bytes) bs
each_filled [] e = tt
each_filled (b ∷ bs) e = (e.0.real, each_filled bs e.1)

each_clear : (b : Block) (bs : List Block) → 0 < length b.bytes → Each (λ c. 0 < length c.bytes) bs → ((i : ℕ) → i < length bs → meet b (get_or bs i no_block) ≡ false) → Each (Misses b) bs
each_clear b [] s e h = tt
each_clear b (c ∷ bs) s e h = (clear b c s e.0 (h 0 (omega arith)), each_clear b bs s e.1 (λ i l. h (suc i) (omega arith)))

apart_disjoint : (bs : List Block) → Each (λ b. 0 < length b.bytes) bs → Apart bs → Disjoint bs
apart_disjoint [] e h = tt
apart_disjoint (b ∷ bs) e h = (
  each_clear b bs e.0 e.1 (λ i l. h 0 (suc i) (omega arith) (omega arith)),
  apart_disjoint bs e.1 (λ i j l m. h (suc i) (suc j) (omega arith) (omega arith)),
)

sound_proper : (bs : List Block) → EachSound bs → Apart bs → Proper bs
sound_proper bs sound apart =
    record { disjoint = apart_disjoint bs (each_filled bs sound) apart; filled = each_filled bs sound }

pub coff_proper : (o : Options) (file : List ℕ) → Bytes file → (s : Source) → read_coff o file ≡ done s → Proper (blocks_of s)
coff_proper o file bytes s h = sound_proper (blocks_of s) (coff_is_sound o file s bytes h) (coff_is_apart o file s bytes h)

pub valid_proper : (p : Program) → Valid p → Proper p.blocks
valid_proper p v = sound_proper p.blocks v.each v.apart

pub image_proper : (image : List ℕ) → Bytes image → (s : Source) → read_image image ≡ done s → Proper (blocks_of s)
image_proper image bytes s h = unfold program_of in valid_proper (program_of s) (read_is_valid image s bytes h)

-- After a load that is not refused every address inside a block holds that block's byte, every other byte is what it was, and the figure counts the addresses written.

pub coff_loaded : (o : Options) (file : List ℕ) (base : ℕ) (window : List ℕ) (bs : List Block) → Bytes file → loading_coff o file base (length window) ≡ done bs → Loaded base window (window_after (loading_coff o file base (length window)) base window) bs
unfolding loading_coff
coff_loaded o file base window bs bytes h =
    let first = first_done (option_rules o) _ h in
    rw (first_silent (option_rules o) (loading (read_coff o file) base (length window)) first.0)
    (load_loaded (read_coff o file) base window bs (λ s e. (coff_proper o file bytes s e).disjoint) first.1)

pub image_loaded : (o : Options) (image : List ℕ) (base : ℕ) (window : List ℕ) (bs : List Block) → Bytes image → loading_image o image base (length window) ≡ done bs → Loaded base window (window_after (loading_image o image base (length window)) base window) bs
unfolding loading_image
image_loaded o image base window bs bytes h =
    let first = first_done (option_rules o) _ h in
    let i = undone o.order image in
    rw (first_silent (option_rules o) (loading (read_image i) base (length window)) first.0)
    (load_loaded (read_image i) base window bs (λ s e. (image_proper i (bytes_undone o.order image bytes) s e).disjoint) first.1)
