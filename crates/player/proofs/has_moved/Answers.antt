-- `player::has_moved` meets its contract. Each return is one case of the definition: a count that is not one, a finished engine, or one
-- step, by its answer. Assumes nothing.
use Rattle.player.specs.Calls.{is_refused}
use Rattle.player.proofs.Moving.{moved_many, moved_finished, moved_one}
use Rattle.player.proofs.has_moved.Goals as goal

pub returns-then-count-ne1 : goal.returns-then-count-ne1
returns-then-count-ne1 c = moved_many c.args.kind c.args.answer c.args.count c.if-count-ne1.true

pub returns-then-kind-eq-FINISHED : goal.returns-then-kind-eq-FINISHED
returns-then-kind-eq-FINISHED c =
    moved_finished c.args.kind c.args.answer c.args.count c.if-count-ne1.false c.if-kind-eq-FINISHED.true

pub returns-in-Running : goal.returns-in-Running
unfolding is_refused
returns-in-Running c =
    rw c.in-Running.is (moved_one c.args.kind _ c.args.count c.if-count-ne1.false c.if-kind-eq-FINISHED.false)

pub returns-in-Finished : goal.returns-in-Finished
unfolding is_refused
returns-in-Finished c =
    rw c.in-Finished.is (moved_one c.args.kind _ c.args.count c.if-count-ne1.false c.if-kind-eq-FINISHED.false)

pub returns-in-Refused : goal.returns-in-Refused
unfolding is_refused
returns-in-Refused c =
    rw c.in-Refused.is (moved_one c.args.kind _ c.args.count c.if-count-ne1.false c.if-kind-eq-FINISHED.false)
