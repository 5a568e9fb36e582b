-- `columns::is_whole` meets its contract: remainder and quotient together tell whether a number is b times the groups (`whole_is`).
-- Assumes nothing.
use Rattle.columns.proofs.Calls.{whole_is}
use Rattle.columns.proofs.is_whole.Goals as goal

pub returns : goal.returns
returns c = whole_is c.args.length c.args.b c.args.groups c.requires
