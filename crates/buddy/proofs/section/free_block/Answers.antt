-- `free_block` frees in the tree around an address, upward from the block's own byte. Assumes nothing.
use Rattle.std.proofs.Common.{◌-◌, div-add-mod', arith}
use Rattle.block.proofs.Size.{size_pos, top_le}
use Rattle.buddy.proofs.Address.{Freeing, freeing}
use Rattle.buddy.proofs.section.free_block.Goals as goal

pub size_of-n-requires : goal.size_of-n-requires
size_of-n-requires c = omega (arith, c.top_of-k.ensures, top_le c.args.setup.d)

pub overflow_sub-offset : goal.overflow_sub-offset
overflow_sub-offset c =
    let block : let a = c.args in Freeing a.setup a.map.now a.address c.top_of-k.result
    c.size_of-n.result =
    freeing c.args.setup c.args.map.now c.requires.0 c.requires.1 c.top_of-k.result c.size_of-n.result
    c.args.address c.top_of-k.ensures c.size_of-n.ensures c.requires.2 in
    block.low

pub bounds-map-offset : goal.bounds-map-offset
bounds-map-offset c =
    let block : let a = c.args in Freeing a.setup a.map.now a.address c.top_of-k.result
    c.size_of-n.result =
    freeing c.args.setup c.args.map.now c.requires.0 c.requires.1 c.top_of-k.result c.size_of-n.result
    c.args.address c.top_of-k.ensures c.size_of-n.ensures c.requires.2 in
    block.inside

pub overflow_sub-level : goal.overflow_sub-level
overflow_sub-level c =
    let block : let a = c.args in Freeing a.setup a.map.now a.address c.top_of-k.result
    c.size_of-n.result =
    freeing c.args.setup c.args.map.now c.requires.0 c.requires.1 c.top_of-k.result c.size_of-n.result
    c.args.address c.top_of-k.ensures c.size_of-n.ensures c.requires.2 in
    omega (arith, block.live)

pub nonzero_div-start : goal.nonzero_div-start
nonzero_div-start c = omega (arith, c.size_of-n.ensures, size_pos c.top_of-k.result)

pub overflow_mul-start : goal.overflow_mul-start
overflow_mul-start c =
    record { fits = omega (arith, div-add-mod' (c.args.address - c.args.setup.s1) c.size_of-n.result) }

pub overflow_add-end : goal.overflow_add-end
overflow_add-end c =
    let block : let a = c.args in Freeing a.setup a.map.now a.address c.top_of-k.result
    c.size_of-n.result =
    freeing c.args.setup c.args.map.now c.requires.0 c.requires.1 c.top_of-k.result c.size_of-n.result
    c.args.address c.top_of-k.ensures c.size_of-n.ensures c.requires.2 in
    record { fits = omega (arith, block.fits) }

pub nonzero_rem-offset : goal.nonzero_rem-offset
nonzero_rem-offset c = omega (arith, c.size_of-n.ensures, size_pos c.top_of-k.result)

pub slice_bounds-free_up-end : goal.slice_bounds-free_up-end
slice_bounds-free_up-end c =
    let block : let a = c.args in Freeing a.setup a.map.now a.address c.top_of-k.result
    c.size_of-n.result =
    freeing c.args.setup c.args.map.now c.requires.0 c.requires.1 c.top_of-k.result c.size_of-n.result
    c.args.address c.top_of-k.ensures c.size_of-n.ensures c.requires.2 in
    block.fits

pub free_up-requires : goal.free_up-requires
free_up-requires c =
    let block : let a = c.args in Freeing a.setup a.map.now a.address c.top_of-k.result
    c.size_of-n.result =
    freeing c.args.setup c.args.map.now c.requires.0 c.requires.1 c.top_of-k.result c.size_of-n.result
    c.args.address c.top_of-k.ensures c.size_of-n.ensures c.requires.2 in
    block.asks

pub returns : goal.returns
returns c =
    let block : let a = c.args in Freeing a.setup a.map.now a.address c.top_of-k.result
    c.size_of-n.result =
    freeing c.args.setup c.args.map.now c.requires.0 c.requires.1 c.top_of-k.result c.size_of-n.result
    c.args.address c.top_of-k.ensures c.size_of-n.ensures c.requires.2 in
    block.puts c.free_up.new.tags c.free_up.ensures
