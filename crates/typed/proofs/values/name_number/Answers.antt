-- `typed::values::name_number` meets its contract. Each branch is one case of the definition, a digit or a letter; neither difference
-- passes x. Assumes nothing.
use native.Mathlib.Omega.{arith}
use mathlib.Core.Path.{◌∙◌}
use borrow.Author.Tests.{leb-true}
use lib.Dec.{leb}
use Rattle.word.proofs.Tests.{and_true}
use Rattle.lines.specs.Words.{name_number, is_digit}
use Rattle.typed.proofs.values.name_number.Goals as goal

pub overflow_sub-result : goal.overflow_sub-result
overflow_sub-result c =
    let low = leb-true 48 c.args.x (and_true (leb 48 c.args.x) (leb c.args.x 57) c.if-x.true).0 in omega arith

pub returns-then-x : goal.returns-then-x
unfolding name_number is_digit
returns-then-x c = (rw c.if-x.true, omega arith)

pub returns-else-x : goal.returns-else-x
unfolding name_number is_digit
returns-else-x c = (c.saturating_sub.ensures ∙ rw c.if-x.false, let is = c.saturating_sub.ensures in omega arith)
