-- `player::l6_step` meets its contract: a state or report of a wrong length changes nothing (`step_short`, `step_unreported`), and
-- otherwise a step is made (`step_leaves_lem`) whose state comes back from its bytes (`step_told_lem`). Assumes nothing.
use Rattle.player.specs.Calls.{no_step}
use Rattle.player.proofs.Leaving.{step_short, step_unreported, step_leaves_lem, step_told_lem}
use Rattle.player.proofs.l6_step.Goals as goal

pub returns-then-state-ne-STATE_BYTES : goal.returns-then-state-ne-STATE_BYTES
unfolding no_step
returns-then-state-ne-STATE_BYTES c =
    record {
      report_after = step_short _ c.args.storage.now c.args.state.now c.args.report.now c.if-state-ne-STATE_BYTES.true;
      back = λ h k. absurd (c.if-state-ne-STATE_BYTES.true h);
    }

pub returns-then-report-ne-REPORT : goal.returns-then-report-ne-REPORT
unfolding no_step
returns-then-report-ne-REPORT c =
    record {
      report_after = step_unreported _ c.args.storage.now c.args.state.now c.args.report.now c.if-state-ne-STATE_BYTES.false c.if-report-ne-REPORT.true
          c.unreported.ensures;
      back = λ h k. absurd (c.if-report-ne-REPORT.true k);
    }

pub returns : goal.returns
returns c =
    record {
      report_after = step_leaves_lem _ c.args.storage.now c.args.state.now c.args.report.now c.read_state-before.ensures
          c.step-stepped.ensures.output_after c.keep_state.ensures.bytes_after
          c.if-state-ne-STATE_BYTES.false c.if-report-ne-REPORT.false c.put_report.ensures c.code_of.ensures;
      back = λ h k. step_told_lem _ c.args.storage.now c.args.state.now c.args.report.now c.read_state-before.ensures
          c.step-stepped.ensures.output_after c.keep_state.ensures.bytes_after
          c.keep_state.ensures.back;
    }
