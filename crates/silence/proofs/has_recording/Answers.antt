-- `silence::has_recording` meets its contract: the pairs are the parts of two numbers. The loop's invariant: those that are left
-- decide. Assumes nothing.
use Rattle.std.proofs.Common.{[], sym, ap, ◌∙◌, arith}
use Rattle.std.specs.List.{list_any}
use Rattle.silence.proofs.Looking.{recorded_in, recording_is, any_found, any_passed, any_none}
use Rattle.silence.proofs.has_recording.Goals as goal

pub loop-pair-init : goal.loop-pair-init
loop-pair-init c =
    sym (ap (list_any (recorded_in c.args.stop)) c.as_chunks.ensures.front ∙ recording_is _ _ c.args.pairs.now (omega arith) (omega arith))

pub returns-then-pair-stop : goal.returns-then-pair-stop
returns-then-pair-stop c =
    sym (c.loop-pair.invariant ∙ any_found (recorded_in c.args.stop) c.as_chunks.result.0.now
    c.loop-pair.pair-index [] c.loop-pair-test.true c.if-pair-stop.true)

pub loop-pair-preserved : goal.loop-pair-preserved
loop-pair-preserved c =
    c.loop-pair.invariant ∙ any_passed (recorded_in c.args.stop) c.as_chunks.result.0.now
    c.loop-pair.pair-index [] c.loop-pair-test.true c.if-pair-stop.false

pub returns : goal.returns
returns c = sym (c.loop-pair.invariant ∙ any_none (recorded_in c.args.stop) _ _ c.loop-pair-test.false)
