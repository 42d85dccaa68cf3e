use Prim.Native.Nat.{◌+◌, ◌≤◌}
use mathlib.Core.Path.{◌≡◌, ap, sym, ◌∙◌}
use native.Mathlib.Omega.{arith}
use Rattle.fields.specs.Program.{blocks_of_parts}
use Rattle.coff.specs.Handed.{part_in}
use Rattle.coff.proofs.PartLaws.{length_piece}
use Rattle.loader.specs.Placing.{placed, sizes_of}
use Rattle.loader.proofs.CoffParts.{left_places, kept_inside, kept_places}
use Rattle.loader.proofs.PlacingLaws.{none_counted, none_placed, fits_at, sizes_turn, placed_turn}
use Rattle.loader.proofs.from_coff.place_parts.Goals.{in-Some, in_default}
use Rattle.loader.proofs.from_coff.place_parts.Goals as goal

pub loop-i-init : goal.loop-i-init
loop-i-init c =
    record {
      figure = sym (none_counted _);
      small = omega arith;
      places = sym (none_placed _ _ _);
    }

pub place-requires : goal.place-requires
place-requires c =
    let told = c.in-Some.ensures in
    let inside = kept_inside told _ _ (fits_at (part_in c.args.file.now) c.loop-i.i _ _ _ (omega arith) c.requires) in
    (inside.0, rw (c.bytes_of.ensures, length_piece _ _ _ told.within) (omega (arith, inside.1)))

pub loop-i-preserved : goal.loop-i-preserved
loop-i-preserved c =
    let l = c.loop-i in
    let file = c.args.file.now in
    let next = c.match-part_at in
    let part = blocks_of_parts (part_in file l.i) in
    let more : (next.bytes ≡ l.bytes + sizes_of part) × (next.bytes ≤ l.bytes + 4294967296) × (next.window ≡ placed c.args.base l.window part) =
    elim next.branch [
      | in-Some w ↦
          let told = w.in-Some.ensures in
          let places = kept_places _ _ _ _ _ _ _ told c.args.base l.window in
          (w.bytes-is ∙ ap (λ n. l.bytes + n) places.0, omega (arith, w.bytes-is, told.within, file.read.short), w.window-is ∙ w.place.ensures ∙ rw w.bytes_of.ensures places.1)
      | in_default w ↦
          let places = left_places _ _ _ w.in_default.ensures c.args.base l.window in
          (omega (arith, w.bytes-is, places.0), omega (arith, w.bytes-is), w.window-is ∙ places.1)
    ]
    in
    record {
      figure = more.0 ∙ rw l.invariant.figure (sizes_turn (part_in file) l.i);
      small = omega (arith, more.1, l.invariant.small);
      places = more.2 ∙ rw l.invariant.places (placed_turn (part_in file) l.i c.args.base c.args.window.now);
    }
