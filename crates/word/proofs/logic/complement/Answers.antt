-- `word::logic::complement` meets its contract: with 2^b for the power, the difference is the definition's, by arithmetic. Assumes nothing.
use Rattle.std.proofs.Common.{arith}
use Rattle.word.specs.Word.{complement}
use Rattle.word.proofs.logic.complement.Goals as goal

pub returns : goal.returns
unfolding complement
returns c = rw c.power.ensures (omega arith)
