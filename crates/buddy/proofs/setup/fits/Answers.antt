-- `buddy::setup::fits` meets its contract: each return by the numbers judged before it. Assumes nothing.
use Rattle.std.proofs.Common.{ap, ◌∙◌, arith, rules}
use borrow.Author.Tests.{not-true, not-false}
use Rattle.block.specs.Blocks.{size}
use Rattle.block.specs.SetUp.{top}
use Rattle.buddy.proofs.Judged.{not_largest, found_largest, not_placed, words_judged, placed_order}
use Rattle.block.proofs.Size.{size_pos, top_le}
use Rattle.buddy.proofs.setup.fits.Goals as goal

pub size_of-largest-requires : goal.size_of-largest-requires
unfolding top
size_of-largest-requires c = omega (arith, c.level_of.ensures, top_le c.args.d)

pub returns-then-largest-d : goal.returns-then-largest-d
unfolding top
returns-then-largest-d c =
    not_largest _ _ (λ z. c.if-largest-d.true (c.size_of-largest.ensures ∙ ap size c.level_of.ensures ∙ z))

pub nonzero_rem-placed : goal.nonzero_rem-placed
nonzero_rem-placed c =
    let largest = found_largest _ _ _ c.level_of.ensures c.size_of-largest.ensures c.if-largest-d.false in
    omega (arith, size_pos (top c.args.d))

pub returns-then-not-placed : goal.returns-then-not-placed
returns-then-not-placed c =
    not_placed _ _ (found_largest _ _ _ c.level_of.ensures c.size_of-largest.ensures c.if-largest-d.false)
    (not-true _ c.if-not-placed.true-raw)

pub overflow_sub-words : goal.overflow_sub-words
overflow_sub-words c = (placed_order _ _ _ (not-false _ c.if-not-placed.false-raw)).0

pub overflow_add-words : goal.overflow_add-words
overflow_add-words c =
    let x = c.args in
    let (order, last) = placed_order x.d x.s1 x.s2 (not-false _ c.if-not-placed.false-raw) in
    search rules

pub nonzero_rem-result : goal.nonzero_rem-result
nonzero_rem-result c =
    let largest = found_largest _ _ _ c.level_of.ensures c.size_of-largest.ensures c.if-largest-d.false in
    omega (arith, size_pos (top c.args.d))

pub returns : goal.returns
returns c =
    let there = not-false _ c.if-not-placed.false-raw in
    let x = c.args in
    let (order, _) = placed_order x.d x.s1 x.s2 there in
    words_judged _ _ (found_largest _ _ _ c.level_of.ensures c.size_of-largest.ensures c.if-largest-d.false) there _ (omega arith)
