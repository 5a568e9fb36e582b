-- `typed::values::Ready::put_text` meets its contract: row 0, then the rows of the lines. Assumes nothing.
use Rattle.typed.proofs.Written.{zero_room, zero_ready, text_long, table_put}
use Rattle.typed.proofs.values.Ready.put_text.Goals as goal

pub put_row-requires : goal.put_row-requires
put_row-requires c =
    zero_room c.args.self.now.labels.b c.args.self.now.labels.text.now c.args.table.now c.requires

pub put_lines-requires : goal.put_lines-requires
put_lines-requires c =
    zero_ready c.args.self.now.labels.b c.args.self.now.labels.text.now c.args.table.now c.requires c.zero_row.ensures
    c.put_row.ensures

pub shape_of-table : goal.shape_of-table
shape_of-table c =
    text_long c.args.self.now.labels.b c.args.self.now.labels.text.now c.args.table.now c.requires c.zero_row.ensures
    c.put_row.ensures c.put_lines.ensures

pub returns : goal.returns
returns c =
    table_put c.args.self.now.labels.b c.args.self.now.labels.text.now c.args.table.now c.requires c.zero_row.ensures
    c.put_row.ensures c.put_lines.ensures
