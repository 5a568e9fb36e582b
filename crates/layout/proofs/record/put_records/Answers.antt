-- `layout::record::put_records` meets its contract. The loop's invariant: the first i records are put. Assumes nothing.
use mathlib.Core.Path.{◌≡◌, refl, ◌∙◌}
use lib.ListN.{get_or}
use Rattle.std.proofs.lemmas.List.{get_or_default}
use Rattle.layout.proofs.Records.{puts_none, puts_next, puts_all}
use Rattle.layout.proofs.record.put_records.Goals as goal

pub loop-i-init : goal.loop-i-init
loop-i-init g c = puts_none _ g.T.Record.none _ g.met.T.Record.long c.requires refl

pub loop-i-preserved : goal.loop-i-preserved
loop-i-preserved g c =
    let none = g.T.Record.none in
    let same : c.index-records-i.result ≡ get_or c.args.records.now c.loop-i.i none
    = c.index-records-i.is ∙ get_or_default c.args.records.now c.loop-i.i _ none c.loop-i-test.true in
    puts_next _ none _ g.met.T.Record.long c.requires c.loop-i.invariant c.loop-i-test.true (rw (← same, ← c.BYTES.ensures) c.put.ensures.bytes_after)
    (rw (← same) c.put.ensures.ranged)

pub returns : goal.returns
returns g c =
    let all = puts_all _ g.T.Record.none _ g.met.T.Record.long c.requires c.loop-i.invariant c.loop-i-test.false in
    record { bytes_after = all.0; ranged = all.1 }
