-- `recordings::is_list` meets its contract, check by check. Assumes nothing.
use Rattle.std.proofs.Common.{arith}
use Rattle.std.proofs.lemmas.Grind.{common_steps}
use Rattle.recordings.specs.Recordings.{is_list}
use Rattle.recordings.proofs.is_list.Goals as goal

pub returns-then-zeros_after : goal.returns-then-zeros_after
unfolding is_list
returns-then-zeros_after c = grind (arith, common_steps)

pub returns-else-zeros_after : goal.returns-else-zeros_after
unfolding is_list
returns-else-zeros_after c = grind (arith, common_steps)
