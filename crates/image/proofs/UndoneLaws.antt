-- An image in an order, at a place where a block begins after undoing: what stands there undone is what is read there in the order.
use Prim.Native.Nat.{ℕ, zero, suc, ◌+◌, ◌-◌, ◌<◌, ◌≤◌}
use mathlib.Core.Path.{◌≡◌, refl, ap, sym, ◌∙◌}
use mathlib.Core.List.{List}
use mathlib.Core.Logic.{⊎_elim}
use native.Mathlib.Nat.{eq-zero-or-pos, add-zero}
use native.Mathlib.Numerals.{add-one}
use native.Mathlib.Omega.{arith}
use lib.ListN.{length, take, drop}
use lib.Seq.{drop-drop}
use Rattle.fields.specs.Number.{number, field_at, u32_at}
use Rattle.fields.proofs.NumberLaws.{field_drop}
use Rattle.image.specs.Layout.{image_number, rounded_up, span_of, spans_of}
use Rattle.image.specs.Order.{area_in, number_in, rewritten, undone, undone_from, area_at}
use Rattle.image.specs.Reading.{zeros, entry_in, size_here, load_here, run_here, area_here, bytes_here, padding_here, block_here, blocks_in}
use Rattle.image.specs.Walking.{block_at, place_of, Framed, First, Ready, TellsIn}
use Rattle.image.specs.Steps.{Fields, FieldsIn}
use Rattle.fields.specs.Program.{Block}
use Rattle.ranges.specs.declared.row.Cursor.{Cursor}
use Rattle.image.specs.declared.walking.BlockHeader.{BlockHeader}
use Rattle.image.proofs.OrderLaws.{numbers_plain, zero_in, rewritten_end, rewritten_field, rewritten_area, rewritten_after, undone_entry, undone_behind, undone_from_behind, length-undone}
use Rattle.image.proofs.TableLaws.{length_here}
use Rattle.image.proofs.WalkingLaws.{stands_at_lem, place_more, framed_few, ready_fits, tells}

pub number_in_drop : (order : ℕ) (s : List ℕ) (at i : ℕ) → number_in order (drop at s) i ≡ number_in order s (at + i)
unfolding number_in
number_in_drop order s at i = rw field_drop

pub entry_undone : (order : ℕ) (s : List ℕ) → entry_in (undone order s) ≡ number_in order s 0
unfolding entry_in image_number u32_at number_in field_at
entry_undone order s = ap number (undone_entry order s)

-- What stands from a block on, or from the end flag.
module _ (order turns : ℕ) (rest : List ℕ) where
  abbrev here : List ℕ
  here = rewritten order order (suc turns) rest

  abbrev size : ℕ
  size = number_in order rest 0

  size_at_end : number_in order rest 0 ≡ 0 → size_here here ≡ number_in order rest 0
  unfolding size_here image_number u32_at number_in
  size_at_end e =
      let z : number (field_at 4 rest 0) ≡ 0 = ap number (sym (numbers_plain (field_at 4 rest 0))) ∙ zero_in 0 order rest 0 e in
      rw (rewritten_end order order turns rest e, z, e)

  size_at_block : 0 < number_in order rest 0 → size_here here ≡ number_in order rest 0
  unfolding size_here image_number u32_at number_in
  size_at_block h = ap number (rewritten_field order order turns rest h 0 (omega arith))

  pub size_undone : size_here here ≡ number_in order rest 0
  size_undone = ⊎_elim (λ e. size_at_end e) (λ h. size_at_block h) (eq-zero-or-pos size)

  module _ (h : 0 < number_in order rest 0) where
    load_undone : load_here here ≡ number_in order rest 4
    unfolding load_here image_number u32_at number_in
    load_undone = ap number (rewritten_field order order turns rest h 1 (omega arith))

    run_undone : run_here here ≡ number_in order rest 8
    unfolding run_here image_number u32_at number_in
    run_undone = ap number (rewritten_field order order turns rest h 2 (omega arith))

    pub area_undone : area_here here ≡ area_in order (take (rounded_up size) (drop 12 rest))
    unfolding area_here
    area_undone = rw size_undone (rewritten_area order order turns rest h)

    after_undone : drop (span_of size) here ≡ rewritten order order turns (drop (span_of size) rest)
    after_undone = rewritten_after order order turns rest h

-- What stands from a cursor on in u is what stands there in the image s, undone: so it is in the whole image undone, and in one that is undone from there on.
pub record Alongside (order : ℕ) (s u : List ℕ) (c : Cursor) : Type 0 where
  pub few : c.number ≤ 4096
  pub same : drop c.at u ≡ rewritten order order (suc (4096 - c.number)) (drop c.at s)

pub alongside_first : (order : ℕ) (s : List ℕ) (c : Cursor) → First c → Alongside order s (undone order s) c
alongside_first order s c f = record { few = omega arith; same = rw (f.place, f.number) (undone_behind order s) }

pub alongside_from : (order : ℕ) (s : List ℕ) (place : ℕ) → Alongside order s (undone_from order place s) (record { at = place; number = 0 })
alongside_from order s place = record { few = omega arith; same = undone_from_behind order place s }

module _ (order : ℕ) (s u : List ℕ) (c : Cursor) (a : Alongside order s u c) where
  pub size_here_lem : size_here (drop c.at u) ≡ number_in order s c.at
  size_here_lem = rw (a.same, size_undone order (4096 - c.number) (drop c.at s), number_in_drop, add-zero)

  abbrev begins : Type 0
  begins = 0 < number_in order (drop c.at s) 0

  real_here : (n : ℕ) → n ≡ number_in order s c.at → 0 < n → begins
  real_here n e h = rw (number_in_drop, add-zero, ← e) h

  pub area_here_lem : (n : ℕ) → n ≡ number_in order s c.at → 0 < n → area_here (drop c.at u) ≡ area_at order s (c.at + 12) n
  unfolding area_at
  area_here_lem n e h =
      rw (a.same, area_undone order (4096 - c.number) (drop c.at s) (real_here n e h), number_in_drop, add-zero, drop-drop, e)

  pub bytes_here_lem : (n : ℕ) → n ≡ number_in order s c.at → 0 < n → (block_here (drop c.at u)).bytes ≡ take n (area_at order s (c.at + 12) n)
  unfolding block_here bytes_here
  bytes_here_lem n e h = rw (area_here_lem n e h, size_here_lem, e)

  pub padding_here_lem : (n : ℕ) → n ≡ number_in order s c.at → 0 < n → zeros (drop n (area_at order s (c.at + 12) n)) ≡ zeros (padding_here (drop c.at u))
  unfolding padding_here
  padding_here_lem n e h = rw (area_here_lem n e h, size_here_lem, e)

  module _ (b : BlockHeader) (f : FieldsIn order s c b) (h : 0 < b.part.size) where
    pub fields_undone : Fields u c b
    fields_undone =
        let r = real_here b.part.size f.size h in
        record {
          size = f.size ∙ sym size_here_lem;
          load = f.load ∙ sym (rw a.same (load_undone order (4096 - c.number) (drop c.at s) r) ∙ number_in_drop order s c.at 4);
          run = f.run ∙ sym (rw a.same (run_undone order (4096 - c.number) (drop c.at s) r) ∙ number_in_drop order s c.at 8);
          raw = f.raw;
          next = f.next;
          one_on = f.one_on;
        }

    pub alongside_next : c.number < 4096 → Alongside order s u b.next
    alongside_next l =
        let r = real_here b.part.size f.size h in
        let z : number_in order (drop c.at s) 0 ≡ b.part.size = rw (number_in_drop, add-zero) (sym f.size) in
        let t : 4096 - c.number ≡ suc (4096 - b.next.number) = omega (arith, f.one_on) in
        let e = rw z at (after_undone order (4096 - c.number) (drop c.at s) r) in
        record {
          few = omega (arith, f.one_on);
          same = rw (f.next, ← (drop-drop (span_of b.part.size) c.at u), ← (drop-drop (span_of b.part.size) c.at s), a.same, ← t) e;
        }

-- Where the image is not refused, that is so at each of its blocks.
alongside_at : (order : ℕ) (s : List ℕ) → Framed (undone order s) → (i : ℕ) → i ≤ length (blocks_in (undone order s)) → Alongside order s (undone order s) (record { at = place_of (undone order s) i; number = i })
alongside_at order s f zero l = alongside_first order s (record { at = place_of (undone order s) 0; number = 0 }) (record { place = unfold place_of in unfold spans_of in refl; number = refl })
alongside_at order s f (suc i) l = go (alongside_at order s f i (omega arith))
  where
    u : List ℕ
    u = undone order s

    go : Alongside order s u (record { at = place_of u i; number = i }) → Alongside order s (undone order s) (record { at = place_of u (suc i); number = suc i })
    go a =
        let st = stands_at_lem u f i (omega arith) in
        let rest = drop (place_of u i) s in
        let z = number_in order rest 0 in
        let e : size_here (drop (place_of u i) u) ≡ z = rw a.same (size_undone order (4096 - i) rest) in
        let n : length (block_at u i).bytes ≡ z = ap (λ (x : Block). length x.bytes) st.is ∙ length_here (drop (place_of u i) u) st.stands.whole ∙ e in
        let p : place_of u (suc i) ≡ place_of u i + span_of z = rw (← (add-one i), place_more u i (omega arith), n) in
        let t : 4096 - i ≡ suc (4096 - suc i) = omega (arith, framed_few u f) in
        record {
          few = omega (arith, framed_few u f);
          same = rw (p, ← (drop-drop (span_of z) (place_of u i) u), ← (drop-drop (span_of z) (place_of u i) s), a.same, ← t) (after_undone order (4096 - i) rest (rw (← e) st.real));
        }

module _ (order : ℕ) (s : List ℕ) (c : Cursor) (ready : Ready (undone order s) c) where
  alongside : Alongside order s (undone order s) c
  alongside =
      let a = alongside_at order s ready.framed c.number (omega (arith, ready.more)) in
      record { few = a.few; same = rw ready.here.place a.same }

  pub ready_in : (c.at + 12 ≤ length s) × (length s ≤ 16777216) × (c.number < 4096)
  ready_in = rw length-undone at (ready_fits (undone order s) c ready)

  pub tells_in : (b : BlockHeader) → FieldsIn order s c b → TellsIn order s c b
  unfolding span_of
  tells_in b f =
      let u = undone order s in
      let st = rw (← ready.here.place) at (stands_at_lem u ready.framed c.number ready.more) in
      let real : 0 < b.part.size = rw (f.size, ← (size_here_lem order s (undone order s) c alongside)) st.real in
      let g = fields_undone order s u c alongside b f real in
      let t = tells u c ready b g in
      let w : c.at + span_of b.part.size ≤ length u = omega (arith, t.within, g.next) in
      record {
        tells = t;
        area = ap (λ (x : Block). x.bytes) st.is ∙ rw f.raw (bytes_here_lem order s u c alongside b.part.size f.size real);
        ends = omega (arith, f.next, f.raw);
        whole = omega (arith, w, length-undone order s, f.raw);
      }
