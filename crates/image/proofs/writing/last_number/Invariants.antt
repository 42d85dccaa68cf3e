-- The number that the bytes passed so far spell, the last one its lowest digit.
use Prim.Native.Nat.{◌-◌, ◌<◌}
use mathlib.Core.Path.{◌≡◌}
use lib.ListN.{length, drop}
use Rattle.fields.specs.Number.{number}
use Rattle.image.proofs.writing.last_number.Given as goal

abbrev pub invariant-loop-byte : goal.invariant-loop-byte
invariant-loop-byte l = (l.n ≡ number (drop (length l.raw - length l.yielded) l.raw)) × (l.n < 16777216)
