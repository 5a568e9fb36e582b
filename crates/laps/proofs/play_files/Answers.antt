-- `laps::play_files` meets its contract: a table has at most 8,000 numbers. Assumes nothing.
use Rattle.std.proofs.Common.{◌≡◌, length, sym, arith, length-take-le, rules}
use Rattle.tour.proofs.Tables.{table_most}
use Rattle.laps.proofs.play_files.Goals as goal

pub slice_bounds-table-end : goal.slice_bounds-table-end
slice_bounds-table-end g c =
    let long : length c.read_table-count.new.table ≡ 8000 = search rules in
    omega (arith, table_most c.args.tab.now, c.read_table-count.ensures.value)

pub slice_bounds-play-end : goal.slice_bounds-play-end
slice_bounds-play-end g c =
    let long : length c.read_table-count.new.table ≡ 8000 = search rules in
    sym (length-take-le _ _ (omega (arith, table_most c.args.tab.now, c.read_table-count.ensures.value)))

pub slice_bounds-play-end-2 : goal.slice_bounds-play-end-2
slice_bounds-play-end-2 g c = sym (length-take-le _ _ (omega (arith, c.min-given.ensures)))
