-- `table::forms::is_literal` meets its contract: its test and the call's answer joined are the definition. Assumes nothing.
use Rattle.table.proofs.forms.is_literal.Goals as goal

pub returns : goal.returns
returns c = cc
