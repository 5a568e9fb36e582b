-- `tour::run_tour` meets its contract: the run is that of the table and the stops that were read (`run_played`), and the table fits its
-- array (`table_most`). Assumes nothing.
use native.Mathlib.Omega.{arith}
use mathlib.Core.Path.{◌≡◌, sym}
use lib.ListN.{length, replicate}
use lib.Seq.{length-take-le}
use Rattle.tour.proofs.Tables.{table_most}
use Rattle.tour.proofs.Playing.{run_played}
use borrow.Author.Rules.{rules}
use Rattle.tour.proofs.run_tour.Goals as goal

pub slice_bounds-table-end : goal.slice_bounds-table-end
slice_bounds-table-end c =
    let long : length c.read_table-count.new.table ≡ 8000 = search rules in
    omega (arith, table_most c.args.tab.now, c.read_table-count.ensures.value)

pub slice_bounds-run-end : goal.slice_bounds-run-end
slice_bounds-run-end c =
    let long : length c.read_table-count.new.table ≡ 8000 = search rules in
    sym (length-take-le _ _ (omega (arith, table_most c.args.tab.now, c.read_table-count.ensures.value)))

pub slice_bounds-run-end-2 : goal.slice_bounds-run-end-2
slice_bounds-run-end-2 c = sym (length-take-le _ _ (omega (arith, c.min-given.ensures)))

pub returns : goal.returns
returns c =
    let ran = rw (c.requires.0, c.requires.1) at c.run.ensures.output_after in
    run_played c.args.tab.now c.args.stops.now (replicate 8000 0) c.read_table-count.ensures.value
    c.read_table-count.ensures.table_after c.min-given.ensures
    c.fresh_state.ensures ran
