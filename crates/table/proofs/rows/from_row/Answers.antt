-- `table::rows::from_row` meets its contract: all that is left from number 10 r on (`take_all`) is what the definition reads row r from.
-- Assumes nothing.
use Prim.Native.Nat.{◌*◌, ◌-◌}
use native.Mathlib.Omega.{arith}
use mathlib.Core.Path.{refl}
use lib.ListN.{length, drop, length-drop}
use lib.Seq.{take_all}
use Rattle.table.specs.Row.{row_at}
use Rattle.table.proofs.rows.from_row.Goals as goal

pub returns : goal.returns
unfolding row_at
returns c =
    let table = c.args.table.now in
    let at = 10 * c.args.r in
    let whole = take_all (length table - at) (drop at table) (simp length-drop (omega arith)) in
    rw whole (refl, simp length-drop (omega arith))
