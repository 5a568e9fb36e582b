-- `tourtext::translate` meets its contract: by the answer. Assumes nothing.
use mathlib.Core.Path.{◌≡◌}
use lib.ListN.{length}
use Rattle.tourtext.proofs.Filing.{rows_file, rows_printed, rows_few, error_file, error_printed, by_rows, by_fault}
use borrow.Author.Rules.{rules}
use Rattle.tourtext.proofs.translate.Goals as goal

pub put_rows-requires : goal.put_rows-requires
put_rows-requires c =
    (rows_few c.args.b c.args.text.now c.read.ensures.table_after c.in-Ok.is c.read.ensures.numbered, search rules)

pub returns-in-Ok : goal.returns-in-Ok
returns-in-Ok c =
    let long : length c.read.new.table ≡ 8000 = search rules in
    let t = by_rows c.args.b c.args.text.now c.args.tab.now c.args.printed.now c.read.new.table _
    c.put_rows.ensures.within
    (rows_few c.args.b c.args.text.now c.read.ensures.table_after c.in-Ok.is c.read.ensures.numbered) long
    (rows_file c.args.b c.args.text.now c.read.ensures.table_after c.in-Ok.is)
    (rows_printed c.args.b c.args.text.now c.read.ensures.table_after c.in-Ok.is)
    c.put_rows.ensures.bytes_value.0 c.put_rows.ensures.bytes_value.1 c.put_rows.ensures.tab_after in
    record {
      bytes_value = (t.bytes_are, t.starts);
      tab_after = t.tab_is;
      printed_after = t.printed_so;
      within = t.tab_room;
    }

pub returns-in-Err : goal.returns-in-Err
returns-in-Err c =
    let t = by_fault c.args.b c.args.text.now c.args.tab.now c.args.printed.now _ _
    (error_file c.args.b c.args.text.now c.read.ensures.table_after c.in-Err.is)
    (error_printed c.args.b c.args.text.now c.read.ensures.table_after c.in-Err.is) c.refused.ensures.bytes_value.0
    c.refused.ensures.bytes_value.1 c.refused.ensures.printed_after in
    record {
      bytes_value = (t.bytes_are, t.starts);
      tab_after = t.tab_is;
      printed_after = t.printed_so;
      within = t.tab_room;
    }
