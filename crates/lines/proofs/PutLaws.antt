-- Pieces put one behind the other are their text put at once.
use Prim.Native.Nat.{ℕ, ◌+◌, ◌-◌, ◌≤◌}
use mathlib.Core.Path.{◌≡◌, refl, sym, ◌∙◌}
use mathlib.Core.List.{List, [], ◌++◌}
use native.Mathlib.Omega.{arith}
use lib.ListN.{length, length-append}
use borrow.Rule.Slice.PartMut.{mid_of, put_mid}
use Rattle.fields.specs.Patch.{patch}
use Rattle.fields.proofs.PatchLaws.{patch_then, patch_nil, part_front}
use Rattle.lines.specs.declared.piece.Text.{Text}
use Rattle.lines.specs.Put.{Puts}

pub puts_none : (t : Text) → Puts t [] t
puts_none t =
    record {
      ends = omega arith;
      holds = sym (patch_nil t.bytes.now t.end);
      room = refl;
      same_reference = refl;
    }

pub puts_then : {old mid new : Text} {xs ys : List ℕ} → Puts old xs mid → Puts mid ys new → Puts old (xs ++ ys) new
puts_then {old} {mid} {new} {xs} {ys} p q =
    record {
      ends = simp length-append (omega arith);
      holds = q.holds ∙ rw p.holds (patch_then old.bytes.now old.end xs mid.end ys p.ends);
      room = q.room ∙ p.room;
      same_reference = q.same_reference ∙ p.same_reference;
    }

-- a part of the buffer was lent, and has come back with a piece over its front
pub puts_front : (t : Text) (part bytes : List ℕ) → part ≡ patch (mid_of t.end (length t.bytes.now - t.end) t.bytes.now) 0 bytes → t.end + length bytes ≤ length t.bytes.now → put_mid t.end (length t.bytes.now - t.end) t.bytes.now part ≡ patch t.bytes.now t.end bytes
puts_front t part bytes e room = rw e (part_front t.end (length t.bytes.now - t.end) t.bytes.now bytes (omega arith) (omega arith))
