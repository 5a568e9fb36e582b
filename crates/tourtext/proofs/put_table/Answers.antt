-- `tourtext::put_table` meets its contract. The loop's invariant: the numbers left, put from here on, give the whole. Assumes nothing.
use native.Mathlib.Omega.{arith}
use Rattle.tourtext.proofs.Filing.{filing_none, filing_all, filing_more}
use Rattle.tourtext.proofs.put_table.Goals as goal

pub loop-i-init : goal.loop-i-init
loop-i-init c =
    filing_none c.args.table.now c.args.tab.now c.requires

pub overflow_mul-i : goal.overflow_mul-i
overflow_mul-i c = omega (arith, c.loop-i.invariant.room, c.loop-i-test.true)

pub offset_bounds-table-i : goal.offset_bounds-table-i
offset_bounds-table-i c = omega (arith, c.loop-i.invariant.room, c.loop-i-test.true)

pub put_number-requires : goal.put_number-requires
put_number-requires c =
    omega (arith, c.loop-i.invariant.room, c.loop-i.invariant.long, c.loop-i-test.true)

pub loop-i-preserved : goal.loop-i-preserved
loop-i-preserved c =
    filing_more _ _ _ c.loop-i.invariant c.loop-i-test.true c.put_number.ensures

pub shape_of-tab : goal.shape_of-tab
shape_of-tab c = c.loop-i.invariant.long

pub returns : goal.returns
returns c = filing_all _ _ _ c.loop-i.invariant c.loop-i-test.false
