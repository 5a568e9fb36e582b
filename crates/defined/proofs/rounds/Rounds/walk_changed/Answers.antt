-- `defined::rounds::Rounds::walk_changed` meets its contract: a line with its set as walked (`changed_same`), and one with a set that changed
-- (`changed_on`). Assumes nothing.
use Rattle.defined.proofs.Loops.{accepted, place_inside, changed_same, changed_on}
use native.Mathlib.Omega.{arith}
use Rattle.defined.proofs.rounds.Rounds.walk_changed.Goals as goal

pub offset_bounds-self-at : goal.offset_bounds-self-at
offset_bounds-self-at c = let inside = place_inside _ (accepted c.args.table.now) 1 c.args.l c.requires in omega arith

pub bounds-self-at : goal.bounds-self-at
bounds-self-at c = place_inside _ (accepted c.args.table.now) 1 c.args.l c.requires

pub offset_bounds-self-at-2 : goal.offset_bounds-self-at-2
offset_bounds-self-at-2 c = let inside = place_inside _ (accepted c.args.table.now) 1 c.args.l c.requires in omega arith

pub bounds-self-at-2 : goal.bounds-self-at-2
bounds-self-at-2 c = place_inside _ (accepted c.args.table.now) 1 c.args.l c.requires

pub join_at-requires : goal.join_at-requires
join_at-requires c = place_inside _ (accepted c.args.table.now) 1 c.args.l c.requires

pub returns-then-self-at : goal.returns-then-self-at
returns-then-self-at c = changed_same _ _ _ c.if-self-at.true

pub returns : goal.returns
returns c = changed_on _ _ _ c.if-self-at.false c.walk_line.ensures c.join_at.ensures
