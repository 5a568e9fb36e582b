-- `silence::put_picked` meets its contract. The loop's invariant: the stops picked so far stand at the start of the output. Assumes nothing.
use Rattle.std.proofs.Common.{true, false, refl, sym, ◌∙◌, arith}
use Rattle.silence.proofs.Picking.{left_by}
use Rattle.silence.proofs.Putting.{put_start, putting_room, putting_next, putting_done}
use Rattle.silence.proofs.put_picked.Goals as goal
use Rattle.silence.proofs.put_picked.Goals.{then-is_picked, else-is_picked}

pub loop-i-init : goal.loop-i-init
loop-i-init c = put_start c.requires

pub bounds-output-n : goal.bounds-output-n
bounds-output-n c =
    putting_room _ _ _ _ _ c.loop-i-test.true c.loop-i.invariant true
    (left_by _ _ _ c.loop-i-test.true (sym c.if-is_picked.true ∙ c.is_picked.ensures)) refl

pub loop-i-preserved : goal.loop-i-preserved
loop-i-preserved c =
    let next = putting_next _ _ _ _ _ c.loop-i-test.true c.loop-i.invariant in
    elim c.if-is_picked.branch [
      | then-is_picked w ↦ rw (w.output-is, w.n-is) (next true (left_by _ _ _ c.loop-i-test.true (sym w.if-is_picked.true ∙ c.is_picked.ensures)))
      | else-is_picked w ↦ rw (w.output-is, w.n-is) (next false (left_by _ _ _ c.loop-i-test.true (sym w.if-is_picked.false ∙ c.is_picked.ensures)))
    ]

pub returns : goal.returns
returns c = putting_done _ _ _ c.loop-i.i c.loop-i.n (omega arith) c.loop-i.invariant
