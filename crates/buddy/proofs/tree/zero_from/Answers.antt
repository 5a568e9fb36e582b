-- `zero_from` tests that every byte from a place on is zero. The loop's invariant: they are if what those passed are joined to is zero, and
-- those after them are. Assumes nothing.
use Rattle.std.proofs.Common.{◌≡◌, ◌+◌, sym, refl, ◌∙◌, add-zero, arith, length-drop}
use lib.Seq.{get_or-drop}
use Rattle.buddy.proofs.Halves.{upper}
use Rattle.buddy.proofs.Zeros.{zero_next, zero_end}
use Rattle.buddy.proofs.tree.zero_from.Goals as goal

pub loop-x-init : goal.loop-x-init
loop-x-init c = (omega arith, rw add-zero refl)

pub loop-x-preserved : goal.loop-x-preserved
loop-x-preserved c =
    let from = c.args.from in
    let tags = c.args.tags.now in
    let i = c.loop-x.x-index in
    let inside = rw (upper from tags, length-drop) at c.loop-x-test.true in
    let next : from + (i + 1) ≡ from + i + 1 = omega arith in
    (omega (arith, inside), c.loop-x.invariant.1 ∙ rw (next, upper from tags, get_or-drop) (zero_next c.loop-x.all (from + i) tags (omega (arith, inside))))

pub returns : goal.returns
returns c =
    let past = rw (upper c.args.from c.args.tags.now, length-drop) at c.loop-x-test.false in
    sym (c.loop-x.invariant.1 ∙ zero_end c.loop-x.all (c.args.from + c.loop-x.x-index) c.args.tags.now (omega (arith, past)))
