-- `tour::numbers::read_table` meets its contract: a file that is no multiple of 8 bytes or too long is no table (`table_uneven`,
-- `table_long`), and another is read (`table_fits`). Assumes nothing.
use mathlib.Core.Path.{sym}
use native.Mathlib.Omega.{arith}
use Rattle.tour.proofs.Putting.{put_none}
use Rattle.tour.proofs.Tables.{length_numbers, table_uneven, table_long, table_fits}
use Rattle.tour.proofs.numbers.read_table.Goals as goal

pub returns-then-tab-ne0 : goal.returns-then-tab-ne0
returns-then-tab-ne0 c =
    let none = table_uneven c.args.tab.now c.if-tab-ne0.true in
    record {
      value = rw none;
      table_after = rw none (sym (put_none 0 c.args.table.now));
    }

pub returns-then-tab-gt-BYTES : goal.returns-then-tab-gt-BYTES
returns-then-tab-gt-BYTES c =
    let none = table_long c.args.tab.now c.if-tab-ne0.false c.if-tab-gt-BYTES.true in
    record {
      value = rw none;
      table_after = rw none (sym (put_none 0 c.args.table.now));
    }

pub read_numbers-requires : goal.read_numbers-requires
read_numbers-requires c = (omega arith, omega arith)

pub returns : goal.returns
returns c =
    let all = table_fits c.args.tab.now c.if-tab-ne0.false (omega arith) in
    record {
      value = rw all (sym (length_numbers _ c.args.tab.now));
      table_after = rw all c.read_numbers.ensures;
    }
