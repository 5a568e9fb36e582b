-- `table::forms::has_shape` meets its contract: the test of the name, by the largest that its call gives, and the pairs' answer joined are
-- the definition. Assumes nothing.
use Rattle.table.proofs.forms.has_shape.Goals as goal

pub returns : goal.returns
returns c = cc
