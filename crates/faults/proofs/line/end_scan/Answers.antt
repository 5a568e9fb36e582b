-- `faults::line::end_scan` meets its contract. Each branch is one case of the definition, by the two tests joined. Assumes nothing.
use mathlib.Core.Path.{sym, ap₂, ◌∙◌}
use mathlib.Core.Bool.{◌&&◌}
use Rattle.faults.specs.Checking.{end_scan}
use Rattle.faults.proofs.line.end_scan.Goals as goal

pub returns-then-is_enough-in_column : goal.returns-then-is_enough-in_column
unfolding end_scan
returns-then-is_enough-in_column c = rw (sym (ap₂ ◌&&◌ c.is_enough.ensures c.in_column.ensures) ∙ c.if-is_enough-in_column.true)

pub returns : goal.returns
unfolding end_scan
returns c = rw (sym (ap₂ ◌&&◌ c.is_enough.ensures c.in_column.ensures) ∙ c.if-is_enough-in_column.false)
