-- `plans::steps::plan_ordered` meets its contract: 13 or 12, and then by the code. Assumes nothing.
use Rattle.table.specs.Row.{as_row}
use Rattle.operations.proofs.Answers.{stops, follows}
use Rattle.plans.proofs.Stepping.{second_set_up, first_set_up, before_set_up, by_code}
use Rattle.plans.proofs.steps.plan_ordered.Goals as goal

pub returns-then-setup-ne0 : goal.returns-then-setup-ne0
unfolding as_row
returns-then-setup-ne0 c = stops (second_set_up _ _ _ c.if-row-eq-SET_UP.true c.if-setup-ne0.true)

pub plan_set_up-requires : goal.plan_set_up-requires
plan_set_up-requires c = c.requires.2

pub returns-then-row-eq-SET_UP : goal.returns-then-row-eq-SET_UP
unfolding as_row
returns-then-row-eq-SET_UP c = follows (first_set_up _ _ _ c.if-row-eq-SET_UP.true c.if-setup-ne0.false) c.plan_set_up.ensures

pub returns-then-setup-eq0 : goal.returns-then-setup-eq0
unfolding as_row
returns-then-setup-eq0 c = stops (before_set_up _ _ _ c.if-row-eq-SET_UP.false c.if-setup-eq0.true)

pub plan_by_code-requires : goal.plan_by_code-requires
unfolding as_row
plan_by_code-requires c =
    (c.requires.0, c.requires.1 c.if-row-eq-SET_UP.false, c.requires.2)

pub returns : goal.returns
unfolding as_row
returns c = follows (by_code _ _ _ c.if-row-eq-SET_UP.false c.if-setup-eq0.false) c.plan_by_code.ensures
