-- `defined::uses::lowest_use` meets its contract. The invariant: what is left of the rows gives what all give. Assumes nothing.
use Rattle.std.proofs.Common.{sym, ◌∙◌, add-one, arith}
use Rattle.defined.specs.Search.{lowest_use}
use Rattle.defined.proofs.Loops.{accepted, lowest_here, lowest_later, lowest_none, rows_inside}
use Rattle.defined.proofs.Telling.{use_is, lowest_tells}
use Rattle.defined.proofs.uses.lowest_use.Goals as goal

pub offset_bounds-marks-row : goal.offset_bounds-marks-row
offset_bounds-marks-row c = let few = rows_inside _ (accepted c.args.table.now) in omega arith

pub bounds-marks-row : goal.bounds-marks-row
bounds-marks-row c = let few = rows_inside _ (accepted c.args.table.now) in omega arith

pub returns-in-Some : goal.returns-in-Some
unfolding lowest_use
returns-in-Some c =
    lowest_tells _ _ (lowest_here c.args.table.now.numbers.now c.loop-row.row c.args.marks.now _ (omega arith)
    (rw c.in-Some.is at (use_is _ _ _ c.use_at.ensures)) ∙ sym c.loop-row.invariant.1)

pub loop-row-preserved : goal.loop-row-preserved
loop-row-preserved c = (
  omega arith,
  rw add-one (c.loop-row.invariant.1 ∙ lowest_later c.args.table.now.numbers.now c.loop-row.row c.args.marks.now (omega arith)
      (rw c.in_default.is at (use_is _ _ _ c.use_at.ensures))),
)

pub returns : goal.returns
unfolding lowest_use
returns c =
    lowest_tells _ _ (lowest_none c.args.table.now.numbers.now c.loop-row.row c.args.marks.now (omega arith) ∙ sym c.loop-row.invariant.1)
