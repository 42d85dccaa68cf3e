use Prim.Native.Nat.{ℕ, ◌+◌, ◌*◌, ◌-◌, ◌<◌, ◌≤◌}
use mathlib.Core.Path.{◌≡◌, sym, ◌∙◌}
use mathlib.Core.List.{List}
use native.Mathlib.Omega.{arith}
use lib.ListN.{length, take, drop, get_or, length-drop}
use lib.Seq.{get_or-drop, take_all}
use Rattle.std.proofs.Common.{reverse}
use Rattle.std.specs.Slice.Iter.{iter_rest}
use Rattle.std.specs.Iterator.Adapters.{rev_source}
use Rattle.std.proofs.lemmas.Grind.{get_or_default_zero}
use Rattle.std.proofs.lemmas.Iterator.Adapters.{YieldsList-from_rev_slice}
use Rattle.std.proofs.lemmas.Iterator.Consumers.{YieldsList-turn}
use Rattle.std.proofs.lemmas.List.{get_or-reverse, length-reverse, length_push}
use Rattle.fields.specs.Number.{number}
use Rattle.fields.proofs.NumberLaws.{bytes_of, bytes_drop, number_within, number_step, number_end}
use Rattle.image.proofs.writing.last_number.Goals as goal

-- the byte that comes next is the digit below those passed
next : (raw : List ℕ) (from k b : ℕ) → (k < length (reverse (drop from raw))) × (b ≡ get_or (reverse (drop from raw)) k b) → b + 256 * number (drop (length raw - k) raw) ≡ number (drop (length raw - (k + 1)) raw)
next raw from k b t =
    let l : k < length (drop from raw) = rw length-reverse at t.0 in
    let n = length-drop from raw in
    let at = length raw - (k + 1) in
    let low : at < length raw = omega (arith, l, n) in
    let e : from + (length (drop from raw) - 1 - k) ≡ at = omega (arith, l, n) in
    let f : at + 1 ≡ length raw - k = omega (arith, l, n) in
    let q : b ≡ get_or raw at 0 = t.1 ∙ get_or-reverse (drop from raw) k b l ∙ get_or-drop from raw (length (drop from raw) - 1 - k) b ∙ rw e (get_or_default_zero raw at b low) in
    omega (arith, q, rw f at (number_step raw at low))

pub loop-byte-init : goal.loop-byte-init
loop-byte-init c =
    let raw = c.args.raw.now in
    let e : length raw - 0 ≡ length raw = omega arith in
    (rw e (sym (number_end raw)), omega arith)

pub loop-byte-preserved : goal.loop-byte-preserved
loop-byte-preserved c =
    let l = c.loop-byte in
    let raw = c.args.raw.now in
    let from = c.args.from in
    let all : take (length raw - from) (drop from raw) ≡ drop from raw = take_all (length raw - from) (drop from raw) (omega (arith, length-drop from raw)) in
    let source : iter_rest (rev_source c.into_iter-byte-iterator.result) ≡ drop from raw = rw (c.into_iter-byte-iterator.ensures.into_iter_gives, c.rev-byte-items.ensures.source) (c.iter.ensures.rest ∙ all) in
    let t = YieldsList-turn (YieldsList-from_rev_slice (drop from raw) source) l.yielded _ l.yielded_by _ _ c.in-Some.byte c.in-Some.is c.next.ensures.steps in
    let n = length_push l.yielded c.in-Some.byte in
    let digit = next raw from (length l.yielded) c.in-Some.byte.now t in
    let at = length raw - (length l.yielded + 1) in
    let few : length (drop at raw) ≤ 3 = omega (arith, length-drop at raw, length-drop from raw, t.0, length-reverse (drop from raw)) in
    let small = number_within 3 (drop at raw) (bytes_drop at raw (bytes_of raw c.type_inv.raw)) few in
    rw n (omega (arith, digit, c.from.ensures, l.invariant), omega (arith, digit, small, c.from.ensures, l.invariant))
