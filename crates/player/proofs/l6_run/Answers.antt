-- `player::l6_run` meets its contract: a state of a wrong length changes nothing (`run_short`), and another is run (`run_leaves_lem`) and comes
-- back from its bytes (`run_told_lem`). Assumes nothing.
use Rattle.player.specs.Calls.{no_run}
use Rattle.player.proofs.Leaving.{run_short, run_leaves_lem, run_told_lem}
use Rattle.player.proofs.l6_run.Goals as goal

pub returns-then-state-ne-STATE_BYTES : goal.returns-then-state-ne-STATE_BYTES
unfolding no_run
returns-then-state-ne-STATE_BYTES c =
    record {
      count_after = run_short c.args.limit _ c.args.storage.now c.args.state.now c.args.count.now c.if-state-ne-STATE_BYTES.true;
      back = λ h. absurd (c.if-state-ne-STATE_BYTES.true h);
    }

pub returns : goal.returns
returns c =
    record {
      count_after = run_leaves_lem c.args.limit _ c.args.storage.now c.args.state.now c.read_state-before.ensures
          c.run-ran.ensures.output_after c.keep_state.ensures.bytes_after
          c.args.count.now c.if-state-ne-STATE_BYTES.false c.code_of.ensures;
      back = λ h. run_told_lem c.args.limit _ c.args.storage.now c.args.state.now c.read_state-before.ensures
          c.run-ran.ensures.output_after c.keep_state.ensures.bytes_after
          c.keep_state.ensures.back;
    }
