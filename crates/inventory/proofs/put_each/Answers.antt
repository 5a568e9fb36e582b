-- `inventory::put_each` meets its contract. The loop's invariant: the texts from left on are put. Assumes nothing.
use native.Mathlib.Omega.{arith}
use Rattle.inventory.proofs.Texts.{lines_start, lines_kept, lines_all, lines_room, lines_more}
use Rattle.inventory.proofs.put_each.Goals as goal

pub loop-left-init : goal.loop-left-init
loop-left-init g c = λ f h. lines_start f _ _ _ c.requires.room.1

pub put_one-place-requires : goal.put_one-place-requires
put_one-place-requires g c =
    let (f, h) = c.requires.lines in
    let l = c.loop-left.invariant f h in
    let room = lines_room f _ _ _ l c.loop-left-test.true c.requires.room.0 in
    c.requires.calls _ _ _ (omega (arith, l.inside)) room.0 room.1

pub loop-left-preserved : goal.loop-left-preserved
loop-left-preserved g c = λ f h.
    let l = c.loop-left.invariant f h in
    lines_more f _ _ _ l c.loop-left-test.true (h _ _ _ _ _ (omega (arith, l.inside)) c.put_one-place.ensures)

pub shape_of-text : goal.shape_of-text
shape_of-text g c = let (f, h) = c.requires.lines in lines_kept f _ _ _ (c.loop-left.invariant f h)

pub returns : goal.returns
returns g c =
    let (f, h) = c.requires.lines in
    let all = lines_all f _ _ _ (c.loop-left.invariant f h) (omega arith) in
    let kept = lines_kept f _ _ _ (c.loop-left.invariant f h) in
    record {
      room = omega (arith, all.starts, all.few);
      inside = omega (arith, all.starts, c.requires.room.1, kept);
      text_after = λ f h. lines_all f _ _ _ (c.loop-left.invariant f h) (omega arith);
    }
