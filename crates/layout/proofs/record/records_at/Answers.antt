-- `layout::record::records_at` meets its contract: each record is read from its place. Assumes nothing.
use Prim.Native.Nat.{◌+◌, ◌*◌}
use lib.ListN.{take, drop}
use borrow.Author.Rules.{rules}
use Rattle.layout.proofs.Records.{made_all, records_made}
use Rattle.layout.proofs.record.records_at.Goals as goal

pub returns : goal.returns
returns g c =
    let at = c.args.at in
    let bytes = c.args.bytes.now in
    let w = g.T.Record.BYTES in
    records_made g.T.Record.from_bytes w at g.row.N bytes c.from_fn.ensures.items.long
    (made_all _ _ (λ i. g.T.Record.from_bytes (take w (drop (at + w * i) bytes))) _ (λ i y q e. search rules) g.row.N c.from_fn.ensures.items)
