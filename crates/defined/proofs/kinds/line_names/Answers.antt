-- `defined::kinds::line_names` meets its contract: the three calls' answers joined with the test for DONE are the definition.
-- Assumes nothing.
use Rattle.defined.specs.Kinds.{line_names}
use Rattle.defined.proofs.kinds.line_names.Goals as goal

pub returns : goal.returns
unfolding line_names
returns c = rw (c.names_kind-tests.ensures, c.names_kind-operations.ensures, c.names_kind-go_to.ensures)
