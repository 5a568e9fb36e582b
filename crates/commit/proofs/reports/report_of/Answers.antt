-- `commit::reports::report_of` meets its contract: by the action. Assumes nothing.
use borrow.Enum.Refused.{opened}
use mathlib.Core.Path.{ap, ◌∙◌}
use Rattle.machine.specs.Storage.{no_report}
use Rattle.operations.specs.Deeds.{meant}
use Rattle.commit.specs.Reported.{report_of}
use Rattle.commit.proofs.Others.{unreported}
use Rattle.commit.proofs.Turning.{store_short, two_short, deliver_short, deliver_two_short, free_short, input_short}
use Rattle.commit.proofs.Turning.{restore_short}
use Rattle.commit.proofs.reports.report_of.Goals as goal

pub store_to-requires : goal.store_to-requires
unfolding meant
store_to-requires c = store_short c.requires (ap meant c.in-Store.is)

pub store_to-requires-in-StoreTwo : goal.store_to-requires-in-StoreTwo
unfolding meant
store_to-requires-in-StoreTwo c = (two_short c.requires (ap meant c.in-StoreTwo.is)).0

pub store_to-requires-in-StoreTwo-2 : goal.store_to-requires-in-StoreTwo-2
unfolding meant
store_to-requires-in-StoreTwo-2 c = (two_short c.requires (ap meant c.in-StoreTwo.is)).1

pub store_to-requires-in-Deliver : goal.store_to-requires-in-Deliver
unfolding meant
store_to-requires-in-Deliver c = deliver_short c.requires (ap meant c.in-Deliver.is)

pub store_to-requires-in-DeliverTwo : goal.store_to-requires-in-DeliverTwo
unfolding meant
store_to-requires-in-DeliverTwo c = (deliver_two_short c.requires (ap meant c.in-DeliverTwo.is)).0

pub store_to-requires-in-DeliverTwo-2 : goal.store_to-requires-in-DeliverTwo-2
unfolding meant
store_to-requires-in-DeliverTwo-2 c = (deliver_two_short c.requires (ap meant c.in-DeliverTwo.is)).1

pub store_to-requires-in-Free : goal.store_to-requires-in-Free
unfolding meant
store_to-requires-in-Free c = free_short c.requires (ap meant c.in-Free.is)

pub store_to-requires-in-Input : goal.store_to-requires-in-Input
unfolding meant
store_to-requires-in-Input c = input_short c.requires (ap meant c.in-Input.is)

pub store_to-requires-in-Restore : goal.store_to-requires-in-Restore
unfolding meant
store_to-requires-in-Restore c = restore_short c.requires (ap meant c.in-Restore.is)

pub returns-in-Store : goal.returns-in-Store
unfolding meant report_of
returns-in-Store c =
    c.tell.ensures ∙ rw (c.in-Store.is, c.store_to.ensures, c.no_store.ensures)

pub returns-in-StoreTwo : goal.returns-in-StoreTwo
unfolding meant report_of
returns-in-StoreTwo c =
    c.tell-in-StoreTwo.ensures ∙ rw (c.in-StoreTwo.is, c.store_to-in-StoreTwo.ensures, c.store_to-in-StoreTwo-2.ensures)

pub returns-in-Deliver : goal.returns-in-Deliver
unfolding meant report_of
returns-in-Deliver c =
    c.tell-in-Deliver.ensures ∙ rw (c.in-Deliver.is, c.store_to-in-Deliver.ensures, c.no_store-in-Deliver.ensures)

pub returns-in-DeliverTwo : goal.returns-in-DeliverTwo
unfolding meant report_of
returns-in-DeliverTwo c =
    c.tell-in-DeliverTwo.ensures ∙ rw (c.in-DeliverTwo.is, c.store_to-in-DeliverTwo.ensures, c.store_to-in-DeliverTwo-2.ensures)

pub returns-in-Free : goal.returns-in-Free
unfolding meant report_of
returns-in-Free c =
    c.tell-in-Free.ensures ∙ rw (c.in-Free.is, c.store_to-in-Free.ensures, c.no_store-in-Free.ensures)

pub returns-in-Input : goal.returns-in-Input
unfolding meant report_of
returns-in-Input c =
    c.tell-in-Input.ensures ∙ rw (c.in-Input.is, c.store_to-in-Input.ensures, c.no_store-in-Input.ensures)

pub returns-in-Restore : goal.returns-in-Restore
unfolding meant report_of
returns-in-Restore c =
    c.tell-in-Restore.ensures ∙ rw (c.in-Restore.is, c.store_to-in-Restore.ensures, c.no_store-in-Restore.ensures)

pub returns-in_default : goal.returns-in_default
unfolding no_report
returns-in_default c =
    c.tell-in_default.ensures ∙ rw (
      unreported c.args.action (opened c.in_default.in_default-own.keys8),
      c.no_store-in_default.ensures,
      c.no_store-in_default-2.ensures,
    )
