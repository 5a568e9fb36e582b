-- `defined::check_fields` meets its contract: a table that is not accepted, one with a use, and one with none. Assumes nothing.
use Rattle.std.proofs.Common.{rules}
use Rattle.std.specs.Prelude.{Some, None}
use Rattle.defined.specs.Answer.{saying}
use Rattle.defined.proofs.Answering.{answered, promised}
use Rattle.defined.proofs.check_fields.Goals as goal

pub returns-in_err-table-clause-meant : goal.returns-in_err-table-clause-meant
returns-in_err-table-clause-meant c = (promised c.args.b c.args.table.now (search rules)).1.0

pub returns-in_err-table-clause-numbered : goal.returns-in_err-table-clause-numbered
returns-in_err-table-clause-numbered c = (promised c.args.b c.args.table.now (search rules)).1.1

pub returns-in-Some : goal.returns-in-Some
unfolding saying
returns-in-Some c =
    let all = promised _ _ (answered c.in_ok-table.table c.in_ok-table.ensures (Some c.in-Some.field-0) c.in-Some.ensures) in
    record { value = all.0; meant = all.1.0; numbered = all.1.1 }

pub returns-in-None : goal.returns-in-None
unfolding saying
returns-in-None c =
    let all = promised _ _ (answered c.in_ok-table.table c.in_ok-table.ensures None c.in-None.ensures) in
    record { value = all.0; meant = all.1.0; numbered = all.1.1 }
