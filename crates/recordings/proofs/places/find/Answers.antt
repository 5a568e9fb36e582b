-- `recordings::places::find` meets its contract. The loop's invariant: a walk along the chain of the stop's remainder has passed no place of the stop.
-- Assumes nothing.
use mathlib.Core.Path.{sym, ◌∙◌}
use native.Mathlib.Omega.{arith}
use Rattle.recordings.proofs.Entering.{pair_room, row_number}
use Rattle.recordings.proofs.Links.{along_start, along_inside, along_less, along_here, along_next, along_end}
use Rattle.recordings.proofs.places.find.Goals as goal

pub place_of-requires : goal.place_of-requires
place_of-requires c =
    c.requires.0

pub chain_of-requires : goal.chain_of-requires
chain_of-requires c =
    c.requires.1.some

pub head_of-at-requires : goal.head_of-at-requires
head_of-at-requires c =
    (c.chain_of.ensures.1, omega (arith, c.requires.1.within, c.requires.0.room))

pub loop-at-init : goal.loop-at-init
loop-at-init c =
    rw c.head_of-at.ensures.0 (along_start (c.requires.1.chains (omega arith)) c.chain_of.ensures.0 c.chain_of.ensures.1)

pub stop_at-requires : goal.stop_at-requires
stop_at-requires c =
    let inside = along_inside (c.requires.1.chains (omega arith)) c.loop-at.invariant c.loop-at-test.true in
    (pair_room c.requires.0 inside, row_number c.requires.0 inside 1 (omega arith))

pub returns-then-stop_at-stop : goal.returns-then-stop_at-stop
returns-then-stop_at-stop c =
    along_here (c.requires.1.chains (omega arith)) c.loop-at.invariant c.loop-at-test.true (sym c.stop_at.ensures ∙ c.if-stop_at-stop.true)

pub link_of-at-requires : goal.link_of-at-requires
link_of-at-requires c =
    pair_room c.requires.0 (along_inside (c.requires.1.chains (omega arith)) c.loop-at.invariant c.loop-at-test.true)

pub loop-at-smaller : goal.loop-at-smaller
loop-at-smaller c =
    rw c.link_of-at.ensures (along_less (c.requires.1.chains (omega arith)) c.loop-at.invariant c.loop-at-test.true)

pub loop-at-preserved : goal.loop-at-preserved
loop-at-preserved c =
    rw c.link_of-at.ensures
    (along_next (c.requires.1.chains (omega arith)) c.loop-at.invariant c.loop-at-test.true
    (λ same. c.if-stop_at-stop.false (c.stop_at.ensures ∙ same)))

pub returns : goal.returns
returns c =
    along_end (c.requires.1.chains (omega arith)) c.loop-at.invariant (omega arith)
