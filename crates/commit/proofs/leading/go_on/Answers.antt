-- `commit::leading::go_on` meets its contract: by the action. Assumes nothing.
use native.Mathlib.Omega.{arith}
use native.Mathlib.Numerals.{add-one}
use mathlib.Core.Path.{sym, ap}
use Rattle.operations.specs.Deeds.{meant}
use Rattle.commit.specs.Carried.{setup_after, counts_after, is_recorded}
use Rattle.commit.proofs.Others.{stays}
use Rattle.commit.proofs.Turning.{input_fits, print_fits, save_room, restore_room, save_definition_room}
use Rattle.commit.proofs.Turning.{restore_definition_room, call_room, return_room}
use Rattle.commit.proofs.leading.go_on.Goals as goal

pub overflow_add-after : goal.overflow_add-after
unfolding meant
overflow_add-after c = record { fits = omega (arith, input_fits c.requires (ap meant c.in-Input.is)) }

pub overflow_add-after-in-Print : goal.overflow_add-after-in-Print
unfolding meant
overflow_add-after-in-Print c = record { fits = omega (arith, print_fits c.requires (ap meant c.in-Print.is)) }

pub overflow_add-after-in-Save : goal.overflow_add-after-in-Save
unfolding meant
overflow_add-after-in-Save c = record { fits = omega (arith, save_room c.requires.countable (ap meant c.in-Save.is)) }

pub overflow_sub-after : goal.overflow_sub-after
unfolding meant
overflow_sub-after c = omega (arith, restore_room c.requires.countable (ap meant c.in-Restore.is))

pub overflow_add-after-in-SaveDefinition : goal.overflow_add-after-in-SaveDefinition
unfolding meant
overflow_add-after-in-SaveDefinition c =
    record { fits = omega (arith, (save_definition_room c.requires.countable (ap meant c.in-SaveDefinition.is)).1) }

pub overflow_sub-after-in-RestoreDefinition : goal.overflow_sub-after-in-RestoreDefinition
unfolding meant
overflow_sub-after-in-RestoreDefinition c = omega (arith, (restore_definition_room c.requires.countable (ap meant c.in-RestoreDefinition.is)).1)

pub overflow_add-after-in-Call : goal.overflow_add-after-in-Call
unfolding meant
overflow_add-after-in-Call c = record { fits = omega (arith, (call_room c.requires.countable (ap meant c.in-Call.is)).1) }

pub overflow_sub-after-in-Return : goal.overflow_sub-after-in-Return
unfolding meant
overflow_sub-after-in-Return c = omega (arith, (return_room c.requires.countable (ap meant c.in-Return.is)).0)

pub returns-in-SetUpWords : goal.returns-in-SetUpWords
unfolding meant setup_after counts_after is_recorded
returns-in-SetUpWords c = rw c.in-SetUpWords.is

pub returns-in-Define : goal.returns-in-Define
unfolding meant setup_after counts_after is_recorded
returns-in-Define c = rw c.in-Define.is

pub returns-in-Input : goal.returns-in-Input
unfolding meant setup_after counts_after is_recorded
returns-in-Input c = rw c.in-Input.is

pub returns-in-Print : goal.returns-in-Print
unfolding meant setup_after counts_after is_recorded
returns-in-Print c = rw c.in-Print.is

pub returns-in-Save : goal.returns-in-Save
unfolding meant setup_after counts_after is_recorded
returns-in-Save c = rw (c.in-Save.is, add-one)

pub returns-in-Restore : goal.returns-in-Restore
unfolding meant setup_after counts_after is_recorded
returns-in-Restore c = rw c.in-Restore.is

pub returns-in-SaveDefinition : goal.returns-in-SaveDefinition
unfolding meant setup_after counts_after is_recorded
returns-in-SaveDefinition c = rw (c.in-SaveDefinition.is, add-one)

pub returns-in-RestoreDefinition : goal.returns-in-RestoreDefinition
unfolding meant setup_after counts_after is_recorded
returns-in-RestoreDefinition c = rw c.in-RestoreDefinition.is

pub returns-in-Call : goal.returns-in-Call
unfolding meant setup_after counts_after is_recorded
returns-in-Call c = rw (c.in-Call.is, add-one)

pub returns-in-Return : goal.returns-in-Return
unfolding meant setup_after counts_after is_recorded
returns-in-Return c = rw c.in-Return.is

pub returns-in_default : goal.returns-in_default
returns-in_default c = sym (stays _ _ c.args.action c.in_default.in_default-own.keys11)
