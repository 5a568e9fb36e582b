-- `buddy::fresh::set_up` meets its contract: zeros, and then free blocks of the largest size. Assumes nothing.
use Rattle.std.proofs.Common.{arith}
use Rattle.block.proofs.Size.{size_pos}
use Rattle.block.proofs.Size.{top_le}
use Rattle.buddy.proofs.Count.{count_fill}
use Rattle.buddy.proofs.FreeTrees.{zeros_long, zeros_again, trees_fresh}
use Rattle.buddy.proofs.fresh.set_up.Goals as goal

pub size_of-requires : goal.size_of-requires
size_of-requires c = omega (arith, c.top_of-k.ensures, top_le c.args.setup.d)

pub nonzero_div-count : goal.nonzero_div-count
nonzero_div-count c = omega (arith, c.size_of.ensures, size_pos c.top_of-k.result)

pub free_trees-requires : goal.free_trees-requires
free_trees-requires c =
    let u = c.args.setup in
    let m = c.args.map.now in
    let fill = count_fill u c.top_of-k.result c.size_of.result c.words_of.result c.top_of-k.ensures
    c.size_of.ensures c.words_of.ensures c.requires.0 in (
      omega (arith, c.top_of-k.ensures, top_le u.d),
      omega (arith, fill, zeros_long m (c.fill.ensures.after (λ y h. h))),
      zeros_again m (c.fill.ensures.after (λ y h. h)),
    )

pub returns : goal.returns
returns c =
    let u = c.args.setup in
    let m = c.args.map.now in
    trees_fresh m (c.fill.ensures.after (λ y h. h)) u c.top_of-k.result c.size_of.result c.words_of.result
    c.top_of-k.ensures c.size_of.ensures c.words_of.ensures c.requires.0 c.free_trees.ensures
