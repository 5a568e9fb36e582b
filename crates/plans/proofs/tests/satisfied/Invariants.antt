use Rattle.table.specs.Row.{rows}
use Rattle.operations.specs.Seen.{seen_by}
use Rattle.plans.proofs.Testing.{Open, tests_left}
use Rattle.plans.proofs.tests.satisfied.Given as goal

abbrev pub invariant-loop-r : goal.invariant-loop-r
invariant-loop-r l =
    Open l.known.b (seen_by l.known l.bugs l.fields l.map l.storage) l.table l.mode l.first l.r

abbrev pub decreases-loop-r : goal.decreases-loop-r
decreases-loop-r l = tests_left (rows l.table) l.r
