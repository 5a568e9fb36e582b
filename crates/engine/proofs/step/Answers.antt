-- `engine::step` meets its contract: it is a walk of one. Assumes nothing.
use native.Mathlib.Omega.{arith}
use mathlib.Core.Path.{ap, ◌∙◌}
use Rattle.machine.specs.Answer.{told_answer}
use Rattle.machine.specs.Step.{Outcome}
use Rattle.machine.proofs.Numbers.{step_told_lem}
use Rattle.engine.proofs.First.{steps_once}
use Rattle.engine.proofs.step.Goals as goal

pub walk-last-requires : goal.walk-last-requires
walk-last-requires c = (omega arith, c.begin-first.ensures.0, c.begin-first.ensures.1)

pub returns : goal.returns
returns c =
    let is = steps_once _ _ _ _ c.walk-last.ensures in
    record {
      output_after = is;
      numbered = ap (λ (o : Outcome). told_answer o.stepped.answer) is ∙ step_told_lem _ _;
    }
