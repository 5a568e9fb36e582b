-- `player::l6_list_blocks` meets its contract. Each return is one case of the definition: a faulty state, unsound blocks, a list of a wrong
-- length, or the blocks. Assumes nothing.
use native.Mathlib.Omega.{arith}
use mathlib.Core.Path.{sym, ◌∙◌, refl}
use Rattle.word.proofs.Tests.{known_true, known_false}
use Rattle.player.proofs.Blocks.{can_list, fault_length, room_for, blocks_faulty, blocks_unsound, blocks_unlisted}
use Rattle.player.proofs.Blocks.{blocks_leave}
use Rattle.player.proofs.l6_list_blocks.Goals as goal

pub returns-then-fault-ne0 : goal.returns-then-fault-ne0
returns-then-fault-ne0 c = blocks_faulty _ _ _ c.state_fault-fault.ensures c.if-fault-ne0.true

pub setup_at-setup-requires : goal.setup_at-setup-requires
setup_at-setup-requires c = fault_length _ (sym c.state_fault-fault.ensures ∙ c.if-fault-ne0.false)

pub slice_bounds-map-end : goal.slice_bounds-map-end
slice_bounds-map-end c = omega (arith, fault_length _ (sym c.state_fault-fault.ensures ∙ c.if-fault-ne0.false))

pub returns-then-not-are_blocks : goal.returns-then-not-are_blocks
returns-then-not-are_blocks c =
    blocks_unsound c.args.state.now c.args.list.now (sym c.state_fault-fault.ensures
    ∙ c.if-fault-ne0.false) c.setup_at-setup.ensures c.args.live (known_false c.are_blocks.ensures c.if-not-are_blocks.true-raw)

pub count_blocks-requires : goal.count_blocks-requires
count_blocks-requires c = can_list _ _ (known_true c.are_blocks.ensures c.if-not-are_blocks.false-raw)

pub overflow_mul-count_blocks : goal.overflow_mul-count_blocks
overflow_mul-count_blocks c = record { fits = omega (arith, c.count_blocks.ensures.few) }

pub returns-then-list-count_blocks : goal.returns-then-list-count_blocks
returns-then-list-count_blocks c =
    blocks_unlisted c.args.state.now c.args.list.now (sym c.state_fault-fault.ensures
    ∙ c.if-fault-ne0.false) c.setup_at-setup.ensures c.args.live refl c.count_blocks.ensures.value
    (known_true c.are_blocks.ensures c.if-not-are_blocks.false-raw) c.if-list-count_blocks.true

pub list_blocks-requires : goal.list_blocks-requires
list_blocks-requires c =
    let (whole, kept) = can_list _ _ (known_true c.are_blocks.ensures c.if-not-are_blocks.false-raw) in
    (whole, kept, room_for _ c.if-list-count_blocks.false c.count_blocks.ensures.value)

pub returns : goal.returns
returns c =
    blocks_leave c.args.state.now c.args.list.now (sym c.state_fault-fault.ensures
    ∙ c.if-fault-ne0.false) c.setup_at-setup.ensures c.args.live refl c.count_blocks.ensures.value
    (known_true c.are_blocks.ensures c.if-not-are_blocks.false-raw) c.if-list-count_blocks.false c.list_blocks.ensures
