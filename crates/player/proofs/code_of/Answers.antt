-- `player::code_of` meets its contract: by the answer. Assumes nothing.
use Rattle.player.specs.Calls.{code}
use Rattle.player.proofs.code_of.Goals as goal

pub returns-in-Running : goal.returns-in-Running
unfolding code
returns-in-Running c = rw c.in-Running.is

pub returns-in-Finished : goal.returns-in-Finished
unfolding code
returns-in-Finished c = rw c.in-Finished.is

pub returns-in-Refused : goal.returns-in-Refused
unfolding code
returns-in-Refused c = rw c.in-Refused.is c.refusal_number.ensures
