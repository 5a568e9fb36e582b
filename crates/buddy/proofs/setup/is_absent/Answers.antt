-- `buddy::setup::is_absent` meets its contract: its three tests joined are the definition. Assumes nothing.
use Rattle.std.proofs.Common.{rules}
use Rattle.block.specs.SetUp.{absent}
use Rattle.buddy.proofs.setup.is_absent.Goals as goal

pub returns : goal.returns
unfolding absent
returns c = search rules
