-- `word::count::count_zeros` meets its contract: the width less its ones is the definition, and the ones are at most the width (`ones_le`).
-- Assumes nothing.
use Rattle.std.proofs.Common.{◌≤◌, arith}
use Rattle.word.specs.Word.{zeros}
use Rattle.word.proofs.Places.{ones_le}
use Rattle.word.proofs.count.count_zeros.Goals as goal

pub overflow_sub-result : goal.overflow_sub-result
overflow_sub-result c =
    let few : c.count_ones.result ≤ c.args.w = rw c.count_ones.ensures (ones_le _ _) in
    omega arith

pub returns : goal.returns
unfolding zeros
returns c = rw c.count_ones.ensures
