-- `soundness::are_fields` meets its contract. The loop's invariant: the definitions are in range if those passed and those left are.
-- Assumes nothing.
use native.Mathlib.Omega.{arith}
use mathlib.Core.Path.{refl, sym, ◌∙◌}
use Rattle.machine.specs.Sound.{is_definition}
use Rattle.machine.specs.State.{undefined}
use Rattle.soundness.proofs.Passed.{also_next, also_end}
use Rattle.soundness.proofs.are_fields.Goals as goal

pub loop-definition-init : goal.loop-definition-init
loop-definition-init c = refl

pub loop-definition-preserved : goal.loop-definition-preserved
unfolding undefined
loop-definition-preserved c =
    c.loop-definition.invariant
    ∙ also_next (is_definition c.args.b) c.loop-definition.all c.args.definitions.now c.loop-definition.definition-index undefined (omega arith)
    ∙ rw c.is_definition-all.ensures

pub returns : goal.returns
returns c =
    sym (c.loop-definition.invariant
    ∙ also_end (is_definition c.args.b) c.loop-definition.all c.args.definitions.now c.loop-definition.definition-index (omega arith))
