-- `plans::steps::plan_step` meets its contract: by the kind of the place. Assumes nothing.
use Rattle.plans.proofs.Answers.{leads}
use Rattle.plans.proofs.Stepping.{kind_tests, kind_operation, kind_exit}
use Rattle.plans.proofs.steps.plan_step.Goals as goal

pub plan_tests-requires : goal.plan_tests-requires
plan_tests-requires c =
    (c.requires.0.readable, c.requires.1, c.requires.2)

pub plan_operation-requires : goal.plan_operation-requires
plan_operation-requires c =
    (c.requires.0, c.requires.1, c.requires.2)

pub plan_exit-requires : goal.plan_exit-requires
plan_exit-requires c = (c.requires.1, c.requires.2)

pub returns-in-0 : goal.returns-in-0
returns-in-0 c = leads (kind_tests _ _ _ _ c.in-0.is) c.plan_tests.ensures

pub returns-in-1 : goal.returns-in-1
returns-in-1 c = leads (kind_operation _ _ _ _ c.in-1.is) c.plan_operation.ensures

pub returns-in_default : goal.returns-in_default
returns-in_default c =
    let r = c.in_default.in_default-own.rest in
    leads (kind_exit _ _ _ _ r.0.1 r.1) c.plan_exit.ensures
