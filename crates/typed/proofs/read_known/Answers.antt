-- `typed::read_known` meets its contract: by the refusal, or by the rows. Assumes nothing.
use Rattle.std.proofs.lemmas.Result.{err_from_is_err_and}
use Rattle.faults.proofs.Faults.{rows_accepted}
use Rattle.typed.proofs.Answers.{refused_table, accepted_few, accepted_roomy, accepted_table}
use Rattle.typed.proofs.read_known.Goals as goal

pub returns-in_err-count : goal.returns-in_err-count
returns-in_err-count c =
    let p = err_from_is_err_and c.from_residual.result c.from_residual.ensures.1 in
    rw (p.1, p.2) (c.in_err-count.ensures, refused_table c.args.labels.now.b c.args.labels.now.text.now c.args.table.now _ _ c.in_err-count.ensures)

pub invariant_of-ready : goal.invariant_of-ready
invariant_of-ready c =
    let (clear, size) = rows_accepted _ _ _ c.in_ok-count.ensures in
    record { few = accepted_few c.args.labels.now.b c.args.labels.now.text.now c.args.table.now clear }

pub put_text-requires : goal.put_text-requires
put_text-requires c =
    let (clear, size) = rows_accepted _ _ _ c.in_ok-count.ensures in
    accepted_roomy c.args.labels.now.b c.args.labels.now.text.now c.args.table.now clear

pub returns : goal.returns
returns c =
    let (clear, size) = rows_accepted _ _ _ c.in_ok-count.ensures in
    (c.in_ok-count.ensures, accepted_table c.args.labels.now.b c.args.labels.now.text.now c.args.table.now clear c.put_text.ensures)
