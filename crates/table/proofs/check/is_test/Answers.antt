-- `table::check::is_test` meets its contract: its tests joined are the definition. Assumes nothing.
use Rattle.table.proofs.Formed.{test_from}
use Rattle.table.specs.Table.{is_test}
use Rattle.table.proofs.check.is_test.Goals as goal

pub returns : goal.returns
unfolding is_test
returns c = test_from _ _ _ c.a_and_cd.ensures c.has_shape.ensures
