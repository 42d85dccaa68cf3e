-- A cursor of an image that rules 20 to 26 do not refuse: its block stands where it does, and the next one behind it.
use Prim.Native.Nat.{ℕ, ◌+◌, ◌<◌, ◌≤◌}
use mathlib.Core.Path.{◌≡◌, ap, sym, ◌∙◌}
use mathlib.Core.List.{List}
use native.Mathlib.Nat.{zero-add}
use native.Mathlib.Numerals.{add-one}
use native.Mathlib.Omega.{arith}
use lib.ListN.{length, take, drop, length-drop}
use lib.Seq.{drop-drop, take-suc}
use Rattle.fields.specs.Program.{Block, no_block}
use Rattle.fields.specs.Rules.{Silent}
use Rattle.fields.proofs.RuleLaws.{done_silent}
use Rattle.image.specs.Layout.{span_of, spans_of}
use Rattle.image.specs.Reading.{size_here, block_here, table_rules, blocks_in, image_source}
use Rattle.image.specs.Walking.{block_at, place_of, Framed, Here, First, Ready, Tells}
use Rattle.image.specs.Steps.{Fields}
use Rattle.ranges.specs.declared.row.Cursor.{Cursor}
use Rattle.image.specs.declared.walking.BlockHeader.{BlockHeader}
use Rattle.image.proofs.AreaLaws.{bytes_are}
use Rattle.image.proofs.LayoutLaws.{span_is, spans_append}
use Rattle.image.proofs.TableLaws.{StandsAs, block_in_lem, table_few, length_here}

pub first_here : (s : List ℕ) (c : Cursor) → First c → Here s c
unfolding place_of spans_of
first_here s c f = record { place = rw f.number f.place }

module _ (s : List ℕ) where
  silent : Framed s → Silent (table_rules 4097 0 (drop 4 s))
  silent f = (done_silent (table_rules 4097 0 (drop 4 s)) (image_source s) (image_source s) f.sound).0

  pub framed_few : Framed s → length (blocks_in s) ≤ 4096
  unfolding blocks_in
  framed_few f = omega (arith, table_few 4097 0 (drop 4 s) (omega arith) (silent f))

  -- the block of a number stands at its place
  pub stands_at_lem : Framed s → (i : ℕ) → i < length (blocks_in s) → StandsAs i (drop (place_of s i) s) (block_at s i)
  unfolding blocks_in place_of block_at
  stands_at_lem f i h =
      let r = block_in_lem 4097 0 (drop 4 s) (silent f) i h in
      let e = drop-drop (spans_of (take i (blocks_in s))) 4 s in
      rw (zero-add i) at (rw e at r)

  -- the next one begins behind its room
  pub place_more : (i : ℕ) → i < length (blocks_in s) → place_of s (i + 1) ≡ place_of s i + span_of (length (block_at s i).bytes)
  unfolding place_of block_at spans_of
  place_more i h = rw (add-one, take-suc (blocks_in s) i no_block h, spans_append) (omega arith)

module _ (s : List ℕ) (c : Cursor) (ready : Ready s c) where
  stood : StandsAs c.number (drop c.at s) (block_at s c.number)
  stood = rw ready.here.place (stands_at_lem s ready.framed c.number ready.more)

  pub ready_fits : (c.at + 12 ≤ length s) × (length s ≤ 16777216) × (c.number < 4096)
  ready_fits =
      let st = stood.stands in
      let n = length-drop c.at s in
      let e = span_is (size_here (drop c.at s)) in
      let f = ready.framed.short in
      omega arith

  pub tells : (b : BlockHeader) → Fields s c b → Tells s c b
  unfolding block_here
  tells b h =
      let st = stood in
      let k = st.stands in
      let n = length-drop c.at s in
      let w : span_of b.part.size ≤ length (drop c.at s) = rw h.size k.whole in
      let len = ap (λ (x : Block). length x.bytes) st.is ∙ length_here (drop c.at s) k.whole in
      let sp = span_is b.part.size in
      record {
        size = h.size ∙ sym len;
        load = h.load ∙ ap (λ (x : Block). x.load) (sym st.is);
        run = h.run ∙ ap (λ (x : Block). x.run) (sym st.is);
        raw = h.raw;
        next = record { place = rw (h.one_on, place_more s c.number ready.more, len, ← h.size, ← ready.here.place) h.next };
        one_on = h.one_on;
        bytes = ap (λ (x : Block). x.bytes) st.is ∙ rw (bytes_are, drop-drop, ← h.size, ← h.raw);
        behind = omega arith;
        within = omega arith;
        real = omega arith;
        loads = omega arith;
        runs = omega arith;
      }
