-- `word::shifts::right_shift` meets its contract. Each branch is one case of the definition. Assumes nothing.
use Rattle.std.proofs.Common.{arith, le-leb}
use borrow.Author.Tests.{lt-leb}
use Rattle.word.specs.Word.{right_shift}
use Rattle.word.proofs.shifts.right_shift.Goals as goal

pub returns-then-w-n : goal.returns-then-w-n
unfolding right_shift
returns-then-w-n c = rw (le-leb c.args.w c.args.n (omega arith))

pub returns-else-w-n : goal.returns-else-w-n
unfolding right_shift
returns-else-w-n c = rw (lt-leb c.args.w c.args.n (omega arith))
