-- `comparison::play` meets its contract: each call leaves storage and output as long as they were. Assumes nothing.
use mathlib.Core.Path.{◌∙◌}
use Rattle.comparison.proofs.play.Goals as goal

pub shape_of-storage : goal.shape_of-storage
shape_of-storage g c =
    c.storage-4-1.given ∙ (c.storage-3-1.given ∙ (c.storage-2-1.given ∙ c.storage-1.given))

pub shape_of-output : goal.shape_of-output
shape_of-output g c =
    c.output-4-1.given ∙ (c.output-3-1.given ∙ (c.output-2-1.given ∙ c.output-1.given))
