-- Where two readers' results mean the same, loads of both do the same: the window is told by what its addresses receive.
use Prim.Native.Nat.{ℕ, ◌+◌, ◌-◌}
use mathlib.Core.Path.{◌≡◌, refl, sym, ◌∙◌}
use mathlib.Core.Bool.{false, cond}
use mathlib.Core.List.{List, [], ◌∷◌}
use mathlib.Core.Logic.{⊎_elim}
use native.Mathlib.Omega.{arith}
use lib.ListN.{length, get_or}
use lib.Seq.{ext_get_or}
use Rattle.fields.specs.Number.{Bytes}
use Rattle.fields.specs.Rules.{Outcome, refused, done, unless}
use Rattle.fields.specs.Options.{Options}
use Rattle.fields.specs.Program.{Block, Source, blocks_of, program_of, has}
use Rattle.fields.proofs.RuleLaws.{done_silent}
use Rattle.image.specs.Order.{undone}
use Rattle.image.specs.Reading.{read_image, reading_in}
use Rattle.image.proofs.OrderLaws.{bytes_undone}
use Rattle.loader.specs.Placing.{is_no_window, placed}
use Rattle.loader.specs.Loading.{outside_rules, loading, loading_image, window_after}
use Rattle.loader.specs.Addresses.{is_written, Each, Disjoint, Within}
use Rattle.demands.specs.Loaded.{Holds, Proper}
use Rattle.demands.specs.Rearranged.{Rearranged}
use Rattle.loader.proofs.AddressLaws.{on}
use Rattle.loader.proofs.PlacingLaws.{length_placed, outside_code}
use Rattle.loader.proofs.LoadingLaws.{no_window, part_outside, all_inside}
use Rattle.demands.proofs.Placed.{others_kept, bytes_placed}
use Rattle.demands.proofs.Loads.{loads, loads_or_not}
use Rattle.demands.proofs.Readers.{image_proper}
use Rattle.demands.proofs.Passing.{image_loads, read_passes}
use Rattle.demands.proofs.WrittenLaws.{within_same, figure_same}
use Rattle.compare.specs.Same.{Received, nothing, byte, given, received}
use Rattle.demands.specs.Meaning.{SameMeaning, held, EqualLoads, both_refused, both_done}
use Rattle.compare.proofs.ReceivedLaws.{received_here, received_behind, received_none, received_some}
use Rattle.demands.proofs.Receiving.{received_rearranged}

-- rows from which every address receives the same write the same addresses
written_same : (bs cs : List Block) → ((a : ℕ) → received bs a ≡ received cs a) → (a : ℕ) → is_written bs a ≡ is_written cs a
written_same bs cs same a =
    on
    (is_written bs a)
    (λ y. on (is_written cs a) (λ z. y ∙ sym z) (λ n. absurd (received_some bs a y (same a ∙ received_none cs a n))))
    (λ n. on (is_written cs a) (λ z. absurd (received_some cs a z (sym (same a) ∙ received_none bs a n))) (λ m. n ∙ sym m))

unwritten : (bs : List Block) (a : ℕ) → received bs a ≡ nothing → is_written bs a ≡ false
unwritten bs a h = on (is_written bs a) (λ y. absurd (received_some bs a y h)) (λ n. n)

given_is : (b : Block) (a v r : ℕ) → given b a ≡ byte v r → get_or b.bytes (a - b.load) 0 ≡ v
unfolding given
given_is b a v r h = cc

not_from_none : (a v r : ℕ) → received [] a ≡ byte v r → ⊥
unfolding received
not_from_none a v r h = let z : ◌≡◌ {A = ℕ} 0 1 = cc in omega arith

-- a window that holds each block's bytes holds what its addresses receive
received_held : (base : ℕ) (window : List ℕ) (bs : List Block) → Each (Holds base window) bs → (i v r : ℕ) → received bs (base + i) ≡ byte v r → get_or window i 0 ≡ v
received_held base window [] holds i v r h = absurd (not_from_none (base + i) v r h)
received_held base window (b ∷ bs) holds i v r h =
    on
    (has b (base + i))
    (λ y.
    let e : base + i - base ≡ i = omega arith in
    (rw e at (holds.0 (base + i) y)) ∙ given_is b (base + i) v r (sym (received_here b bs (base + i) y) ∙ h))
    (λ n. received_held base window bs holds.1 i v r (sym (received_behind b bs (base + i) n) ∙ h))

-- memory after placing, address by address: what it received, or what it held
pub by_address : (base : ℕ) (window : List ℕ) (bs : List Block) → Disjoint bs → Within base (length window) bs → (i : ℕ) → get_or (placed base window bs) i 0 ≡ held (received bs (base + i)) (get_or window i 0)
unfolding held
by_address base window bs d w i = go (received bs (base + i)) refl
  where
    go : (r : Received) → received bs (base + i) ≡ r → get_or (placed base window bs) i 0 ≡ held r (get_or window i 0)
    go nothing h = others_kept base (length window) window bs w i (unwritten bs (base + i) h)
    go (byte v r) h = received_held base (placed base window bs) bs (bytes_placed base window bs d w) i v r h

-- rows from which every address receives the same leave the same memory
placed_same : (base : ℕ) (window : List ℕ) (bs cs : List Block) → ((a : ℕ) → received bs a ≡ received cs a) → Disjoint bs → Disjoint cs → Within base (length window) bs → Within base (length window) cs → placed base window bs ≡ placed base window cs
placed_same base window bs cs same d e v w =
    ext_get_or 0 (placed base window bs) (placed base window cs)
    (length_placed base window bs ∙ sym (length_placed base window cs))
    (λ i l. by_address base window bs d v i ∙ rw (same (base + i)) (sym (by_address base window cs e w i)))

-- what was read is refused by rule 28 where the window is none, and else by 29
module _ (source : Outcome Source) (base room : ℕ) (s : Source) (reads : source ≡ done s) where
  refusal_code : {code index : ℕ} → loading source base room ≡ refused code index → code ≡ cond (is_no_window base room) 28 29
  refusal_code {code} {index} h =
      on
      (is_no_window base room)
      (λ none. rw none (let q = sym (no_window source base room none) ∙ h in cc))
      (λ one. rw one (go one (unless (outside_rules base room s.parts) (blocks_of s)) refl))
    where
      go : is_no_window base room ≡ false → (o : Outcome (List Block)) → unless (outside_rules base room s.parts) (blocks_of s) ≡ o → code ≡ 29
      go one (refused c i) e =
          let q = sym (part_outside source base room one reads e) ∙ h in
          let same : c ≡ code = cc in
          sym same ∙ outside_code base room s.parts (blocks_of s) e
      go one (done bs) e =
          let q = sym (all_inside source base room one reads (done_silent _ (blocks_of s) bs e).0) ∙ h in
          let z : ◌≡◌ {A = ℕ} 0 1 = cc in
          absurd (omega arith)

-- Loads from any two readers that hand on blocks that are disjoint and not empty.
module _ (base : ℕ) (window : List ℕ) (source source' : Outcome Source) (s t : Source) (reads : source ≡ done s) (reads' : source' ≡ done t) (fine : Proper (blocks_of s)) (fine' : Proper (blocks_of t)) (same : (a : ℕ) → received (blocks_of s) a ≡ received (blocks_of t) a) where
  loads_same : EqualLoads base window (loading source base (length window)) (loading source' base (length window))
  loads_same =
      let written = written_same (blocks_of s) (blocks_of t) same in
      ⊎_elim
      (λ no. ⊎_elim
      (λ no'.
      let codes = refusal_code source base (length window) s reads no.2 ∙ sym (refusal_code source' base (length window) t reads' no'.2) in
      rw (no.2, no'.2, codes) both_refused)
      (λ yes'.
      let q = sym no.2 ∙ loads source base (length window) s reads yes'.0 (within_same (blocks_of s) (blocks_of t) written fine base (length window) yes'.1) in
      let z : ◌≡◌ {A = ℕ} 0 1 = cc in
      absurd (omega arith))
      (loads_or_not source' base (length window) t reads'))
      (λ yes.
      let within' = within_same (blocks_of t) (blocks_of s) (λ a. sym (written a)) fine' base (length window) yes.1 in
      rw (loads source base (length window) s reads yes.0 yes.1, loads source' base (length window) t reads' yes.0 within')
      (both_done
      (placed_same base window (blocks_of s) (blocks_of t) same fine.disjoint fine'.disjoint yes.1 within')
      (figure_same (blocks_of s) (blocks_of t) written fine.disjoint fine'.disjoint base (length window) yes.1 within')))
      (loads_or_not source base (length window) s reads)

-- equal loads leave equal windows, refused or not
pub equal_windows : (base : ℕ) (window : List ℕ) {o p : Outcome (List Block)} → EqualLoads base window o p → window_after o base window ≡ window_after p base window
unfolding window_after
equal_windows base window both_refused = refl
equal_windows base window (both_done e f) = e

-- the order of the blocks, and where they were cut, make no difference to a load
pub rearranged_loads :
    (source source' : Outcome Source) (s t : Source)
    → source ≡ done s
    → source' ≡ done t
    → Proper (blocks_of s)
    → Proper (blocks_of t)
    → Rearranged (blocks_of s) (blocks_of t)
    → (base : ℕ) (window : List ℕ)
    → EqualLoads base window (loading source base (length window)) (loading source' base (length window))
rearranged_loads source source' s t reads reads' fine fine' r base window =
    loads_same base window source source' s t reads reads' fine fine' (received_rearranged r fine.disjoint)

-- so two images that are read, each in its order, and differ in that alone, load alike into every window; their entry points are not asked
pub rearranged_images_load :
    (o o' : Options) (i j : List ℕ) (s t : Source)
    → Bytes i
    → Bytes j
    → reading_in o i ≡ done s
    → reading_in o' j ≡ done t
    → Rearranged (blocks_of s) (blocks_of t)
    → (base : ℕ) (window : List ℕ)
    → EqualLoads base window (loading_image o i base (length window)) (loading_image o' j base (length window))
rearranged_images_load o o' i j s t bytes bytes' reads reads' r base window =
    let p = read_passes o i s reads in
    let q = read_passes o' j t reads' in
    let u = undone o.order i in
    let v = undone o'.order j in
    rw (image_loads o p.0 i base (length window), image_loads o' q.0 j base (length window))
    (rearranged_loads (read_image u) (read_image v) s t p.1 q.1 (image_proper u (bytes_undone o.order i bytes) s p.1) (image_proper v (bytes_undone o'.order j bytes') t q.1) r base window)

-- where two results mean the same, loads of both do the same
pub same_loads :
    (file image : Outcome Source)
    → ((s : Source) → file ≡ done s → Proper (blocks_of s))
    → ((s : Source) → image ≡ done s → Proper (blocks_of s))
    → SameMeaning file image
    → (base : ℕ) (window : List ℕ)
    → EqualLoads base window (loading file base (length window)) (loading image base (length window))
same_loads file image fine fine' m base window =
    loads_same base window file image m.this m.that m.reads_this m.reads_that
    (fine m.this m.reads_this)
    (fine' m.that m.reads_that)
    (unfold program_of in m.same.placement)
