-- `recordings::places::place_of` meets its contract. The loop's invariant: none of the pairs passed has the stop. Assumes nothing.
use mathlib.Core.Path.{sym, ◌∙◌}
use native.Mathlib.Omega.{arith}
use borrow.Author.Count.{below_more}
use Rattle.recordings.proofs.Entering.{pair_room, row_number}
use Rattle.recordings.proofs.places.place_of.Goals as goal

pub loop-k-init : goal.loop-k-init
loop-k-init c = (omega arith, λ j h. absurd (omega arith))

pub stop_at-requires : goal.stop_at-requires
stop_at-requires c =
    (pair_room c.requires c.loop-k-test.true, row_number c.requires c.loop-k-test.true 1 (omega arith))

pub returns-then-stop_at-stop : goal.returns-then-stop_at-stop
returns-then-stop_at-stop c =
    record { most = c.loop-k.invariant.0; found = λ _. sym c.stop_at.ensures ∙ c.if-stop_at-stop.true; none = λ full. absurd (omega arith) }

pub loop-k-preserved : goal.loop-k-preserved
loop-k-preserved c =
    (omega arith, below_more _ _ c.loop-k.invariant.1 (λ same. c.if-stop_at-stop.false (c.stop_at.ensures ∙ same)))

pub returns : goal.returns
returns c =
    record { most = omega arith; found = λ h. absurd (omega arith); none = λ _ j h. c.loop-k.invariant.1 j (omega arith) }
