-- `comparison::step_all` meets its contract. Each step leaves storage and output as long as they were. Assumes nothing.
use Rattle.std.proofs.Common.{◌∙◌}
use Rattle.comparison.proofs.step_all.Goals as goal

pub loop-before-preserved : goal.loop-before-preserved
loop-before-preserved c =
    (c.storage-1.given ∙ c.loop-before.invariant.0, c.output-1.given ∙ c.loop-before.invariant.1)

pub shape_of-storage : goal.shape_of-storage
shape_of-storage c = c.loop-before.invariant.0

pub shape_of-output : goal.shape_of-output
shape_of-output c = c.loop-before.invariant.1
