-- `typed::writing::put_row` meets its contract: the ten numbers put in their part of the table are the row put (`row_put`).
-- Assumes nothing.
use native.Mathlib.Omega.{arith}
use lib.ListN.{length-take, length-drop}
use Rattle.typed.proofs.Putting.{row_put}
use Rattle.typed.proofs.writing.put_row.Goals as goal

pub put_numbers-requires : goal.put_numbers-requires
put_numbers-requires c = simp (length-take, length-drop) (omega (arith, c.requires))

pub returns : goal.returns
returns c =
    row_put c.args.row c.args.made c.args.table.now c.put_numbers.new.ten c.put_numbers.ensures
