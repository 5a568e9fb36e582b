use lib.ListN.{length}
use Rattle.layout.proofs.Records.{Puts}
use Rattle.layout.proofs.record.put_records.Given as goal

abbrev pub invariant-loop-i : goal.invariant-loop-i
invariant-loop-i g l =
    let record_of = g.T.Record in
    Puts record_of.as_bytes record_of.none record_of.BYTES g.met.T.Record.long record_of.InRange l.at (length l.records) l.records l.initial.bytes l.bytes l.i
