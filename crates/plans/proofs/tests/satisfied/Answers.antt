-- `plans::tests::satisfied` meets its contract. The loop's invariant: the tests so far have not settled the line. The measure is how many
-- tests can follow. Assumes nothing.
use Rattle.plans.proofs.Answers.{outcome_is, no_outcome_is}
use Rattle.plans.proofs.Testing.{open_first, open_ends, open_stopped, open_settles, open_next, fewer_left}
use Rattle.plans.proofs.Testing.{against}
use Rattle.plans.proofs.tests.satisfied.Goals as goal

pub loop-r-init : goal.loop-r-init
loop-r-init c = open_first _ _ _ _ _ c.requires.2

pub test_at-answer-requires : goal.test_at-answer-requires
test_at-answer-requires c = (c.requires.0, c.requires.1)

pub loop-r-smaller : goal.loop-r-smaller
loop-r-smaller c =
    fewer_left _ _ _ _ _ c.loop-r.invariant c.if-r-eq0.false
    (outcome_is _ c.test_at-answer.ensures c.in-Ok.is)

pub loop-r-preserved : goal.loop-r-preserved
loop-r-preserved c =
    open_next _ _ _ _ _ c.loop-r.invariant c.if-r-eq0.false
    (outcome_is _ c.test_at-answer.ensures c.in-Ok.is)
    (against c.in-Ok.test.holds c.settling.result c.if-test-settling.false c.settling.ensures)

pub returns-then-r-eq0 : goal.returns-then-r-eq0
returns-then-r-eq0 c = open_ends _ _ _ _ _ c.loop-r.invariant c.if-r-eq0.true c.settled_as.ensures

pub returns-then-test-settling : goal.returns-then-test-settling
returns-then-test-settling c =
    open_settles _ _ _ _ _ c.loop-r.invariant c.if-r-eq0.false
    (outcome_is _ c.test_at-answer.ensures c.in-Ok.is) (against c.in-Ok.test.holds
    c.settling.result c.if-test-settling.true c.settling.ensures)
    c.settled_as-then-test-settling.ensures

pub returns-in-Err : goal.returns-in-Err
returns-in-Err c =
    open_stopped _ _ _ _ _ c.loop-r.invariant c.if-r-eq0.false
    (no_outcome_is _ c.test_at-answer.ensures c.in-Err.is)
