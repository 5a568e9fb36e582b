-- `layout::reading::setup_at` meets its contract: the three numbers read are the definition's own. Assumes nothing.
use Rattle.layout.specs.Layout.{state_of}
use Rattle.layout.proofs.reading.setup_at.Goals as goal

pub returns : goal.returns
unfolding state_of
returns c = rw (c.short_at.ensures, c.short_at-2.ensures, c.short_at-3.ensures)
