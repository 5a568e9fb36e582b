-- `player::l6_count_blocks` meets its contract. Each return is one case of the definition: a faulty state, a list of a wrong length,
-- unsound blocks, or the two counts. Assumes nothing.
use native.Mathlib.Omega.{arith}
use mathlib.Core.Path.{sym, ◌∙◌}
use Rattle.word.proofs.Tests.{known_true, known_false}
use lib.ListN.{length-set}
use Rattle.player.proofs.Blocks.{can_list, fault_length, counts_faulty, counts_unlisted, counts_unsound, counts_leave}
use Rattle.player.proofs.l6_count_blocks.Goals as goal

pub returns-then-fault-ne0 : goal.returns-then-fault-ne0
returns-then-fault-ne0 c = counts_faulty _ _ c.state_fault-fault.ensures c.if-fault-ne0.true

pub returns-then-counts-ne2 : goal.returns-then-counts-ne2
returns-then-counts-ne2 c = counts_unlisted _ _ (sym c.state_fault-fault.ensures ∙ c.if-fault-ne0.false) c.if-counts-ne2.true

pub setup_at-setup-requires : goal.setup_at-setup-requires
setup_at-setup-requires c = fault_length _ (sym c.state_fault-fault.ensures ∙ c.if-fault-ne0.false)

pub slice_bounds-map-end : goal.slice_bounds-map-end
slice_bounds-map-end c = omega (arith, fault_length _ (sym c.state_fault-fault.ensures ∙ c.if-fault-ne0.false))

pub returns-then-not-are_blocks : goal.returns-then-not-are_blocks
returns-then-not-are_blocks c =
    counts_unsound c.args.state.now c.args.counts.now (sym c.state_fault-fault.ensures
    ∙ c.if-fault-ne0.false) c.setup_at-setup.ensures c.if-counts-ne2.false (known_false c.are_blocks.ensures c.if-not-are_blocks.true-raw)

pub count_blocks-requires : goal.count_blocks-requires
count_blocks-requires c = can_list _ _ (known_true c.are_blocks.ensures c.if-not-are_blocks.false-raw)

pub count_blocks-requires-2 : goal.count_blocks-requires-2
count_blocks-requires-2 c = can_list _ _ (known_true c.are_blocks.ensures c.if-not-are_blocks.false-raw)

pub bounds-counts-1 : goal.bounds-counts-1
bounds-counts-1 c = simp length-set (omega (arith, c.if-counts-ne2.false))

pub shape_of-counts : goal.shape_of-counts
shape_of-counts c = simp length-set

pub returns : goal.returns
returns c =
    counts_leave c.args.state.now c.args.counts.now (sym c.state_fault-fault.ensures
    ∙ c.if-fault-ne0.false) c.setup_at-setup.ensures c.if-counts-ne2.false (known_true c.are_blocks.ensures c.if-not-are_blocks.false-raw)
    c.count_blocks.ensures.value c.count_blocks-2.ensures.value
