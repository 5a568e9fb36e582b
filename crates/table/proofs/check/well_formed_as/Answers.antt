-- `table::check::well_formed_as` meets its contract: each return by the tests that led there. Assumes nothing.
use native.Mathlib.Omega.{arith}
use Rattle.word.proofs.Tests.{known_true, known_false}
use Rattle.table.proofs.Formed.{other_kind, not_chained, formed_from_lem}
use Rattle.table.proofs.check.well_formed_as.Goals as goal

pub returns-then-row-kind : goal.returns-then-row-kind
returns-then-row-kind c = other_kind _ _ _ _ _ (omega arith)

pub returns-then-not-is_chained : goal.returns-then-not-is_chained
returns-then-not-is_chained c = not_chained _ _ _ _ _ (omega arith) (known_false c.is_chained.ensures c.if-not-is_chained.true-raw)

pub returns : goal.returns
returns c =
    formed_from_lem _ _ _ _ _ (omega arith) (known_true c.is_chained.ensures c.if-not-is_chained.false-raw) c.has_kind.ensures
