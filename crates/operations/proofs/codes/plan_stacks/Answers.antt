-- `operations::codes::plan_stacks` meets its contract: by the code. Assumes nothing.
use Rattle.table.specs.Row.{as_row}
use Rattle.operations.proofs.Answers.{follows}
use Rattle.operations.proofs.ByCode.{stack_records, stack_contents}
use Rattle.operations.proofs.codes.plan_stacks.Goals as goal

pub plan_records-requires : goal.plan_records-requires
plan_records-requires c = (c.requires.2.name, c.requires.3)

pub returns-then-row-gt-RESTORE : goal.returns-then-row-gt-RESTORE
unfolding as_row
returns-then-row-gt-RESTORE c = follows (stack_records _ _ _ _ _ c.if-row-gt-RESTORE.true) c.plan_records.ensures

pub plan_contents-requires : goal.plan_contents-requires
unfolding as_row
plan_contents-requires c =
    (c.requires.0, c.requires.1, c.requires.2.contents c.if-row-gt-RESTORE.false, c.requires.3)

pub returns : goal.returns
unfolding as_row
returns c = follows (stack_contents _ _ _ _ _ c.if-row-gt-RESTORE.false) c.plan_contents.ensures
