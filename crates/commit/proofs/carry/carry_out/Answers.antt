-- `commit::carry::carry_out` meets its contract: by the action. Assumes nothing.
use native.Mathlib.Omega.{arith}
use mathlib.Core.Path.{refl, ap, ◌∙◌}
use Rattle.block.proofs.Size.{fitting_facts}
use Rattle.block.proofs.Change.{words_whole}
use Rattle.operands.proofs.Storing.{still_reached}
use Rattle.operations.specs.Deeds.{meant}
use Rattle.commit.proofs.Delivering.{same_run, same_copy}
use Rattle.commit.proofs.Carrying.{store_asks, two_asks, set_up_asks, deliver_asks, deliver_two_asks, free_asks, input_asks}
use Rattle.commit.proofs.Carrying.{print_asks, save_asks, restore_asks, did_store, did_two, did_set_up, did_deliver}
use Rattle.commit.proofs.Carrying.{did_deliver_two, did_free, did_input, did_print, did_save, did_restore, idles}
use borrow.Author.Rules.{rules}
use Rattle.commit.proofs.carry.carry_out.Goals as goal

pub store-requires : goal.store-requires
unfolding meant
store-requires c =
    (c.requires.0, store_asks _ _ c.requires.3.1 (ap meant c.in-Store.is))

pub store-requires-in-StoreTwo : goal.store-requires-in-StoreTwo
unfolding meant
store-requires-in-StoreTwo c =
    (c.requires.0, (two_asks _ _ c.requires.3.1 (ap meant c.in-StoreTwo.is)).0)

pub store-requires-in-StoreTwo-2 : goal.store-requires-in-StoreTwo-2
unfolding meant
store-requires-in-StoreTwo-2 c = (
  c.requires.0,
  still_reached _ _ _ _ _ c.storage-in-StoreTwo-1.given
      (two_asks _ _ c.requires.3.1 (ap meant c.in-StoreTwo.is)).1,
)

pub set_up-requires : goal.set_up-requires
unfolding meant
set_up-requires c =
    let h = set_up_asks _ _ c.requires.3.1 (ap meant c.in-SetUpWords.is) in
    (words_whole _ _ h.0, h.1)

pub zero_words-requires : goal.zero_words-requires
unfolding meant
zero_words-requires c =
    let h = set_up_asks _ _ c.requires.3.1 (ap meant c.in-SetUpWords.is) in
    omega (arith, c.words_of.ensures, (fitting_facts _ _ h.0).lies)

pub take_run-requires : goal.take_run-requires
unfolding meant
take_run-requires c =
    let h = deliver_asks _ _ c.requires.3.1 (ap meant c.in-Deliver.is) in
    (c.requires.1, c.requires.2, same_run _ h.0, λ some. same_copy _ (h.1 some))

pub store-requires-in-Deliver : goal.store-requires-in-Deliver
unfolding meant
store-requires-in-Deliver c = (
  c.requires.0,
  still_reached _ _ _ _ _ c.storage-in-Deliver-1.given
      (deliver_asks _ _ c.requires.3.1 (ap meant c.in-Deliver.is)).2,
)

pub take_run-requires-in-DeliverTwo : goal.take_run-requires-in-DeliverTwo
unfolding meant
take_run-requires-in-DeliverTwo c =
    let h = deliver_two_asks _ _ c.requires.3.1 (ap meant c.in-DeliverTwo.is) in
    (c.requires.1, c.requires.2, same_run _ h.0, λ some. absurd (some refl))

pub store-requires-in-DeliverTwo : goal.store-requires-in-DeliverTwo
unfolding meant
store-requires-in-DeliverTwo c = (
  c.requires.0,
  still_reached _ _ _ _ _ c.storage-in-DeliverTwo-1.given
      (deliver_two_asks _ _ c.requires.3.1 (ap meant c.in-DeliverTwo.is)).1,
)

pub store-requires-in-DeliverTwo-2 : goal.store-requires-in-DeliverTwo-2
unfolding meant
store-requires-in-DeliverTwo-2 c = (
  c.requires.0,
  still_reached _ _ _ _ _ (c.storage-in-DeliverTwo-2-1.given ∙ c.storage-in-DeliverTwo-1.given)
      (deliver_two_asks _ _ c.requires.3.1 (ap meant c.in-DeliverTwo.is)).2,
)

pub free_block-requires : goal.free_block-requires
unfolding meant
free_block-requires c =
    let h = free_asks _ _ c.requires.3.1 (ap meant c.in-Free.is) in
    (c.requires.1, c.requires.2, h.1)

pub store-requires-in-Free : goal.store-requires-in-Free
unfolding meant
store-requires-in-Free c =
    (c.requires.0, (free_asks _ _ c.requires.3.1 (ap meant c.in-Free.is)).0)

pub store-requires-in-Input : goal.store-requires-in-Input
unfolding meant
store-requires-in-Input c =
    (c.requires.0, (input_asks _ _ c.requires.3.1 (ap meant c.in-Input.is)).0)

pub print_into-requires : goal.print_into-requires
unfolding meant
print_into-requires c =
    let (narrow, room) = print_asks _ _ c.requires.3.1 (ap meant c.in-Print.is) in
    (narrow, omega arith)

pub offset_bounds-entries-top : goal.offset_bounds-entries-top
unfolding meant
offset_bounds-entries-top c =
    let h = save_asks _ _ c.requires.3.1 (ap meant c.in-Save.is) in
    search rules

pub bounds-entries-top : goal.bounds-entries-top
unfolding meant
bounds-entries-top c =
    save_asks _ _ c.requires.3.1 (ap meant c.in-Save.is)

pub store-requires-in-Restore : goal.store-requires-in-Restore
unfolding meant
store-requires-in-Restore c =
    (c.requires.0, (restore_asks _ _ c.requires.3.1 (ap meant c.in-Restore.is)).0)

pub returns-in-Store : goal.returns-in-Store
unfolding meant
returns-in-Store c =
    did_store _ _ _ _ _ _ _ _ _ (ap meant c.in-Store.is) c.store.ensures

pub returns-in-StoreTwo : goal.returns-in-StoreTwo
unfolding meant
returns-in-StoreTwo c =
    did_two _ _ _ _ _ _ _ _ _ (ap meant c.in-StoreTwo.is) c.store-in-StoreTwo.ensures
    c.store-in-StoreTwo-2.ensures

pub returns-in-SetUpWords : goal.returns-in-SetUpWords
unfolding meant
returns-in-SetUpWords c =
    did_set_up _ _ _ _ _ _ _ _ _ (ap meant c.in-SetUpWords.is) c.words_of.ensures
    c.set_up.ensures c.zero_words.ensures

pub returns-in-Deliver : goal.returns-in-Deliver
unfolding meant
returns-in-Deliver c =
    did_deliver _ _ _ _ _ _ _ _ _ c.take_run.ensures (ap meant c.in-Deliver.is)
    c.store-in-Deliver.ensures

pub returns-in-DeliverTwo : goal.returns-in-DeliverTwo
unfolding meant
returns-in-DeliverTwo c =
    did_deliver_two _ _ _ _ _ _ _ _ _ c.take_run-in-DeliverTwo.ensures (ap meant c.in-DeliverTwo.is)
    c.store-in-DeliverTwo.ensures c.store-in-DeliverTwo-2.ensures

pub returns-in-Free : goal.returns-in-Free
unfolding meant
returns-in-Free c =
    did_free _ _ _ _ _ _ _ _ _ (ap meant c.in-Free.is) c.free_block.ensures
    c.store-in-Free.ensures

pub returns-in-Input : goal.returns-in-Input
unfolding meant
returns-in-Input c =
    did_input _ _ _ _ _ _ _ _ _ (ap meant c.in-Input.is) c.store-in-Input.ensures

pub returns-in-Print : goal.returns-in-Print
unfolding meant
returns-in-Print c =
    did_print _ _ _ _ _ _ _ _ _ (ap meant c.in-Print.is) c.print_into.ensures

pub returns-in-Save : goal.returns-in-Save
unfolding meant
returns-in-Save c = did_save _ _ _ _ _ _ _ _ _ (ap meant c.in-Save.is)

pub returns-in-Restore : goal.returns-in-Restore
unfolding meant
returns-in-Restore c =
    did_restore _ _ _ _ _ _ _ _ _ (ap meant c.in-Restore.is) c.store-in-Restore.ensures

pub returns-in_default : goal.returns-in_default
returns-in_default c = idles _ _ _ _ _ _ _ _ _ _ c.in_default.in_default-own.keys11
