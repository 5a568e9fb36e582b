-- `buddy::extension::extend_map` meets its contract: free blocks of the largest size in the bytes past the words. Assumes nothing.
use Rattle.std.proofs.Common.{arith}
use Rattle.block.proofs.Size.{size_pos, top_le}
use Rattle.block.proofs.Extension.{extending_facts}
use Rattle.buddy.proofs.Added.{words_room, count_room, part_zeros, added_map}
use Rattle.buddy.proofs.extension.extend_map.Goals as goal

pub overflow_sub-count : goal.overflow_sub-count
overflow_sub-count c = omega (arith, (extending_facts _ _ _ c.requires.0.2).later)

pub size_of-requires : goal.size_of-requires
size_of-requires c = omega (arith, c.top_of-k.ensures, top_le c.args.setup.d)

pub nonzero_div-count : goal.nonzero_div-count
nonzero_div-count c = omega (arith, c.size_of.ensures, size_pos c.top_of-k.result)

pub slice_bounds-free_trees-count : goal.slice_bounds-free_trees-count
slice_bounds-free_trees-count c =
    words_room c.args.setup c.args.last c.args.map.now c.requires.0 c.requires.1 c.requires.2
    c.top_of-k.result c.size_of.result c.words_of-from.result c.top_of-k.ensures c.size_of.ensures
    c.words_of-from.ensures

pub slice_bounds-free_trees-start : goal.slice_bounds-free_trees-start
slice_bounds-free_trees-start c =
    words_room c.args.setup c.args.last c.args.map.now c.requires.0 c.requires.1 c.requires.2
    c.top_of-k.result c.size_of.result c.words_of-from.result c.top_of-k.ensures c.size_of.ensures
    c.words_of-from.ensures

pub free_trees-requires : goal.free_trees-requires
free_trees-requires c = (
  omega (arith, c.top_of-k.ensures, top_le c.args.setup.d),
  count_room c.args.setup c.args.last c.args.map.now c.requires.0 c.requires.1 c.requires.2
      c.top_of-k.result c.size_of.result c.words_of-from.result c.top_of-k.ensures
      c.size_of.ensures c.words_of-from.ensures,
  part_zeros c.args.setup c.args.last c.args.map.now c.requires.0 c.requires.1 c.requires.2
      c.top_of-k.result c.size_of.result c.words_of-from.result c.top_of-k.ensures
      c.size_of.ensures c.words_of-from.ensures,
)

pub returns : goal.returns
returns c =
    added_map c.args.setup c.args.last c.args.map.now c.requires.0 c.requires.1 c.requires.2
    c.top_of-k.result c.size_of.result c.words_of-from.result c.top_of-k.ensures
    c.size_of.ensures c.words_of-from.ensures _ c.free_trees.ensures
