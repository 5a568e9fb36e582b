-- `is_rest` tests the kind of the block, its place and the byte of the low half. Assumes nothing.
use Rattle.std.proofs.Common.{◌/◌, ◌%◌, arith, eq-eqb, ne_eqb}
use Rattle.buddy.specs.Marks.{is_rest}
use Rattle.buddy.proofs.Adding.{odd_past}
use Rattle.buddy.proofs.tree.is_rest.Goals as goal

pub returns-then-tag-ne1 : goal.returns-then-tag-ne1
unfolding is_rest
returns-then-tag-ne1 c = rw (ne_eqb (c.args.tag % 2) 1 c.if-tag-ne1.true)

pub returns-then-i-n-ne1 : goal.returns-then-i-n-ne1
unfolding is_rest
returns-then-i-n-ne1 c =
    rw (eq-eqb (c.args.tag % 2) 1 c.if-tag-ne1.false, ne_eqb (c.args.i / c.args.n % 2) 1 c.if-i-n-ne1.true)

pub overflow_sub-result : goal.overflow_sub-result
overflow_sub-result c =
    odd_past c.args.i c.args.n c.if-i-n-ne1.false

pub returns : goal.returns
unfolding is_rest
returns c =
    rw (eq-eqb (c.args.tag % 2) 1 c.if-tag-ne1.false, eq-eqb (c.args.i / c.args.n % 2) 1 c.if-i-n-ne1.false)

pub bounds-bytes-i : goal.bounds-bytes-i
bounds-bytes-i shared-slice-read-result = omega arith
