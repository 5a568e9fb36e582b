-- `engine::run` meets its contract: it is no step, or a walk without its report. Assumes nothing.
use native.Mathlib.Omega.{arith}
use mathlib.Core.Path.{ap, ◌∙◌}
use Rattle.machine.specs.Answer.{told_answer}
use Rattle.machine.specs.Step.{RunOutcome, run}
use Rattle.machine.proofs.Numbers.{run_told_lem}
use Rattle.engine.proofs.First.{runs_none, runs_some}
use Rattle.engine.proofs.run.Goals as goal

pub returns-then-limit-eq0 : goal.returns-then-limit-eq0
unfolding run
returns-then-limit-eq0 c =
    let is = runs_none _ _ _ c.if-limit-eq0.true in
    record {
      output_after = is;
      numbered = ap (λ (o : RunOutcome). told_answer o.ran.answer) is ∙ run_told_lem 0 _ _ _;
    }

pub walk-last-requires : goal.walk-last-requires
walk-last-requires c = (omega arith, c.begin-first.ensures.0, c.begin-first.ensures.1)

pub returns : goal.returns
unfolding run
returns c =
    let is = runs_some _ _ _ c.if-limit-eq0.false c.walk-last.ensures in
    record {
      output_after = is;
      numbered = ap (λ (o : RunOutcome). told_answer o.ran.answer) is ∙ run_told_lem 0 _ _ _;
    }
