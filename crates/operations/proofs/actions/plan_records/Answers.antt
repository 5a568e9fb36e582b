-- `operations::actions::plan_records` meets its contract: 19 or 20, by the code. Assumes nothing.
use native.Mathlib.Omega.{arith}
use Rattle.table.specs.Row.{as_row, pair_at}
use Rattle.operations.specs.Deeds.{meant}
use Rattle.operations.proofs.Answers.{does, stops}
use Rattle.operations.proofs.Stacks.{save_definition_full, save_definition_lem, restore_definition_empty, restore_definition_lem}
use Rattle.operations.proofs.Stacks.{call_full, call}
use Rattle.operations.proofs.actions.plan_records.Goals as goal

pub overflow_cast-field : goal.overflow_cast-field
unfolding as_row
overflow_cast-field c = omega (arith, c.requires.0)

pub returns-then-saved-ge-STACK : goal.returns-then-saved-ge-STACK
unfolding as_row
returns-then-saved-ge-STACK c = stops (save_definition_full _ _ _ c.if-code-eq-SAVE_DEFINITION.true c.if-saved-ge-STACK.true)

pub returns-then-code-eq-SAVE_DEFINITION : goal.returns-then-code-eq-SAVE_DEFINITION
unfolding as_row meant
returns-then-code-eq-SAVE_DEFINITION c = does _ (save_definition_lem _ _ _ c.if-code-eq-SAVE_DEFINITION.true c.if-saved-ge-STACK.false)

pub returns-then-saved-eq0 : goal.returns-then-saved-eq0
unfolding as_row
returns-then-saved-eq0 c = stops (restore_definition_empty _ _ _ c.if-code-eq-SAVE_DEFINITION.false c.if-code-eq-RESTORE_DEFINITION.true c.if-saved-eq0.true)

pub returns-then-code-eq-RESTORE_DEFINITION : goal.returns-then-code-eq-RESTORE_DEFINITION
unfolding as_row meant
returns-then-code-eq-RESTORE_DEFINITION c = does _ (restore_definition_lem _ _ _ c.if-code-eq-SAVE_DEFINITION.false c.if-code-eq-RESTORE_DEFINITION.true c.if-saved-eq0.false)

pub returns-then-calls-ge-STACK : goal.returns-then-calls-ge-STACK
unfolding as_row
returns-then-calls-ge-STACK c = stops (call_full _ _ _ c.if-code-eq-SAVE_DEFINITION.false c.if-code-eq-RESTORE_DEFINITION.false c.if-calls-ge-STACK.true)

pub returns : goal.returns
unfolding as_row pair_at meant
returns c = does _ (call _ _ _ c.if-code-eq-SAVE_DEFINITION.false c.if-code-eq-RESTORE_DEFINITION.false c.if-calls-ge-STACK.false)
