use Prim.Native.Nat.{◌+◌, ◌*◌, ◌/◌}
use mathlib.Core.Path.{◌≡◌}
use native.Mathlib.Omega.{arith}
use Rattle.records.proofs.CountedLaws.{counting_first, table_cut, table_end, table_short, table_far, table_on, record_room}
use Rattle.records.proofs.counting.count.Goals.{After-room-at}
use Rattle.records.proofs.counting.count.Goals as goal

pub loop-at-init : goal.loop-at-init
loop-at-init c = (omega arith, counting_first _)

pub returns-then-size-at : goal.returns-then-size-at
returns-then-size-at c = table_cut _ _ _ c.requires.0 _ _ c.loop-at.invariant.1 (omega arith)

pub returns-then-n-eq0 : goal.returns-then-n-eq0
returns-then-n-eq0 c = table_end _ _ _ c.requires.0 _ _ c.loop-at.invariant.1 (omega arith) _ c.number_at-n.ensures (omega arith)

pub returns-then-left-n : goal.returns-then-left-n
returns-then-left-n c = table_short _ _ _ c.requires.0 _ _ c.loop-at.invariant.1 (omega arith) _ c.number_at-n.ensures (omega arith) (omega arith)

pub returns-then-end-gt4294967296 : goal.returns-then-end-gt4294967296
returns-then-end-gt4294967296 c =
    table_far _ _ _ c.requires.0 _ _ c.loop-at.invariant.1 (omega arith) _ c.number_at-n.ensures (omega arith) (omega arith) _ c.number_at.ensures (omega arith)

-- the room of the record that is counted
room_here : (c : After-room-at) → c.room-at.result ≡ 8 + (c.number_at-n.result + 7) / 8 * 8
room_here c = record_room _ _ _ c.room-at.ensures

pub overflow_add-at-in-loop-at-2 : goal.overflow_add-at-in-loop-at-2
overflow_add-at-in-loop-at-2 c = omega (arith, room_here c)

pub loop-at-smaller : goal.loop-at-smaller
loop-at-smaller c = omega (arith, room_here c)

pub loop-at-preserved : goal.loop-at-preserved
loop-at-preserved c = (
  omega (arith, room_here c),
  table_on _ _ _ c.requires.0 _ _ c.loop-at.invariant.1 (omega arith) _ c.number_at-n.ensures (omega arith) (omega arith) _ c.number_at.ensures (omega arith) _ c.room-at.ensures,
)
