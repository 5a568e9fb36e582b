-- `recordings::has_room` meets its contract. The loop's invariant: whether there is room for all stops is whether there is room for those left.
-- Assumes nothing.
use mathlib.Core.Path.{sym, ◌∙◌}
use native.Mathlib.Omega.{arith}
use borrow.Author.Tests.{lt-leb}
use lib.ListN.{length}
use Rattle.recordings.specs.Recordings.{all_standing}
use Rattle.recordings.proofs.Stops.{room_for_all, room_start, room_none, room_next, room_end}
use Rattle.recordings.proofs.Telling.{least_is}
use Rattle.recordings.proofs.has_room.Goals as goal

pub returns-then-steps-room : goal.returns-then-steps-room
returns-then-steps-room c = room_for_all _ _ c.requires.0.all_steps c.if-steps-room.true

pub returns-then-room-le-FEW : goal.returns-then-room-le-FEW
returns-then-room-le-FEW c =
    sym (lt-leb (length (all_standing c.args.list.now)) c.args.room (omega (arith, c.requires.1, c.if-room-le-FEW.true)))

pub loop-left-init : goal.loop-left-init
loop-left-init c = room_start _ _

pub next_stop-requires : goal.next_stop-requires
next_stop-requires c = c.requires.0

pub returns-in_default : goal.returns-in_default
returns-in_default c =
    sym (room_none _ _ _ (rw c.in_default.is at (least_is _ _ _ c.next_stop.ensures.value))) ∙ c.loop-left.invariant

pub loop-left-preserved : goal.loop-left-preserved
loop-left-preserved c =
    room_next _ _ _ _ (rw c.in-Some.is at (least_is _ _ _ c.next_stop.ensures.value)) (omega arith) ∙ c.loop-left.invariant

pub next_stop-requires-2 : goal.next_stop-requires-2
next_stop-requires-2 c = c.requires.0

pub returns : goal.returns
returns c =
    sym (room_end _ _ _ (omega arith) _ (least_is _ _ _ c.next_stop-2.ensures.value) _ c.is_none.ensures) ∙ c.loop-left.invariant
