-- `count_blocks` counts one block after the other. The loop's invariant: counting from here on gives the blocks of the tree, and each byte
-- passed added one at most. The measure is what is left of the tree. Assumes nothing.
use Rattle.std.proofs.Common.{sym, arith}
use Rattle.word.proofs.Tests.{known_true, known_false}
use Rattle.buddy.specs.Marks.{tag_level}
use Rattle.block.proofs.Size.{size_small}
use Rattle.buddy.proofs.Adding.{adds_all, adds_end, adds_stop, adds_pass, Tagged, tagged}
use Rattle.buddy.proofs.tree.count_blocks.Goals as goal

pub loop-i-init : goal.loop-i-init
loop-i-init c = (omega arith, omega arith, adds_all c.args.k c.args.bytes.now c.requires.1)

pub starts_block-requires : goal.starts_block-requires
starts_block-requires c = (omega arith, omega arith)

pub returns-then-not-starts_block : goal.returns-then-not-starts_block
returns-then-not-starts_block c =
    let stop = known_false c.starts_block.ensures c.if-not-starts_block.true-raw in
    sym (adds_stop c.args.k c.args.bytes.now (omega arith) stop c.loop-i.invariant.2)

pub overflow_sub-bytes : goal.overflow_sub-bytes
overflow_sub-bytes c =
    let tag : Tagged c.args.k c.loop-i.i c.args.bytes.now =
    tagged _ _ _ (omega arith) (known_true c.starts_block.ensures c.if-not-starts_block.false-raw) in
    let t = tag in omega arith

pub size_of-i-requires : goal.size_of-i-requires
size_of-i-requires c =
    let tag : Tagged c.args.k c.loop-i.i c.args.bytes.now =
    tagged _ _ _ (omega arith) (known_true c.starts_block.ensures c.if-not-starts_block.false-raw) in
    tag.level

pub overflow_add-i : goal.overflow_add-i
overflow_add-i c =
    let tag : Tagged c.args.k c.loop-i.i c.args.bytes.now =
    tagged _ _ _ (omega arith) (known_true c.starts_block.ensures c.if-not-starts_block.false-raw) in
    let t = tag in record { fits = omega (arith, c.size_of-i.ensures) }

pub loop-i-smaller : goal.loop-i-smaller
loop-i-smaller c =
    let tag : Tagged c.args.k c.loop-i.i c.args.bytes.now =
    tagged _ _ _ (omega arith) (known_true c.starts_block.ensures c.if-not-starts_block.false-raw) in
    let t = tag in omega (arith, c.size_of-i.ensures)

pub loop-i-preserved : goal.loop-i-preserved
unfolding tag_level
loop-i-preserved c =
    let tag : Tagged c.args.k c.loop-i.i c.args.bytes.now =
    tagged _ _ _ (omega arith) (known_true c.starts_block.ensures c.if-not-starts_block.false-raw) in
    let t = tag in (
      omega (arith, c.size_of-i.ensures, size_small c.args.k (omega arith)),
      omega (arith, c.size_of-i.ensures),
      rw c.size_of-i.ensures (adds_pass c.args.k c.args.bytes.now (omega arith) t.starts c.loop-i.invariant.2),
    )

pub returns : goal.returns
returns c =
    sym (adds_end c.args.k c.args.bytes.now (omega arith) c.loop-i.invariant.2)

pub overflow_add-count : goal.overflow_add-count
overflow_add-count add-count = omega arith

pub bounds-bytes-i : goal.bounds-bytes-i
bounds-bytes-i shared-slice-read-size-of = omega arith
