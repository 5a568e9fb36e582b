-- `table::forms::is_ref` meets its contract: its test and the call's answer joined are the definition. Assumes nothing.
use Rattle.table.proofs.forms.is_ref.Goals as goal

pub returns : goal.returns
returns c = cc
