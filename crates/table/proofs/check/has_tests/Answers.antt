-- `table::check::has_tests` meets its contract: its two tests come to the same where the definition says so. Assumes nothing.
use lib.Dec.{eqb}
use Rattle.table.proofs.Formed.{same_tests}
use Rattle.table.proofs.check.has_tests.Goals as goal

pub returns : goal.returns
returns c =
    same_tests (eqb c.args.row.code 0) (eqb c.args.row.first.form 0)
