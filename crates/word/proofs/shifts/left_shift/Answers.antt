-- `word::shifts::left_shift` meets its contract. Each branch is one case of the definition; the 64 bits that a shift keeps have the same
-- low bits (`mod_mod_le`). Assumes nothing.
use Rattle.std.proofs.Common.{le_of_lt, arith, le-leb}
use borrow.Author.Tests.{lt-leb}
use Rattle.word.specs.Word.{left_shift}
use Rattle.word.proofs.Modulo.{mod_mod_le}
use Rattle.word.proofs.shifts.left_shift.Goals as goal

pub returns-then-n-w : goal.returns-then-n-w
unfolding left_shift
returns-then-n-w c =
    rw (c.low_bits.ensures, lt-leb c.args.w c.args.n (omega arith)) (mod_mod_le _ {m = 64} (le_of_lt c.requires))

pub returns-else-n-w : goal.returns-else-n-w
unfolding left_shift
returns-else-n-w c = rw (le-leb c.args.w c.args.n (omega arith))
