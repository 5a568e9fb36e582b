-- `table::check::rest_unused` meets its contract: its test and the call's answer joined are the definition. Assumes nothing.
use Rattle.table.proofs.check.rest_unused.Goals as goal

pub returns : goal.returns
returns c = cc
