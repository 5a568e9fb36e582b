-- `faults::line::paren_step` meets its contract: by the walk. Assumes nothing.
use mathlib.Core.Path.{sym, ap, subst, ◌∙◌}
use Rattle.faults.specs.declared.Walk.{Walk}
use Rattle.faults.specs.Checking.{told_walk, paren_walk, Few}
use borrow.Author.Rules.{rules}
use Rattle.faults.proofs.line.paren_step.Goals as goal

pub tested_step-requires : goal.tested_step-requires
tested_step-requires c =
    (c.requires.0, (subst (λ (k : Walk). Few k c.args.at) c.in-Tests.is c.requires.1.0, c.requires.1.1))

pub operation_step-requires : goal.operation_step-requires
operation_step-requires c =
    (c.requires.0, (subst (λ (k : Walk). Few k c.args.at) c.in-Then.is c.requires.1.0, c.requires.1.1))

pub operation_step-requires-in-Operations : goal.operation_step-requires-in-Operations
operation_step-requires-in-Operations c =
    (c.requires.0, (subst (λ (k : Walk). Few k c.args.at) c.in-Operations.is c.requires.1.0, c.requires.1.1))

pub returns-in-Start : goal.returns-in-Start
unfolding told_walk paren_walk
returns-in-Start c = search rules

pub returns-in-Broken : goal.returns-in-Broken
unfolding told_walk paren_walk
returns-in-Broken c = search rules

pub returns-in-Mode : goal.returns-in-Mode
unfolding told_walk paren_walk
returns-in-Mode c = search rules

pub returns-in-Tests : goal.returns-in-Tests
unfolding paren_walk
returns-in-Tests c =
    c.tested_step.ensures
    ∙ sym (ap (λ (k : Walk). told_walk (paren_walk c.args.s.now c.args.b k c.args.at c.args.close)) c.in-Tests.is)

pub returns-in-Then : goal.returns-in-Then
unfolding paren_walk
returns-in-Then c =
    c.operation_step.ensures
    ∙ sym (ap (λ (k : Walk). told_walk (paren_walk c.args.s.now c.args.b k c.args.at c.args.close)) c.in-Then.is)

pub returns-in-Operations : goal.returns-in-Operations
unfolding paren_walk
returns-in-Operations c =
    c.operation_step-in-Operations.ensures
    ∙ sym (ap (λ (k : Walk). told_walk (paren_walk c.args.s.now c.args.b k c.args.at c.args.close)) c.in-Operations.is)

pub returns-in-End : goal.returns-in-End
unfolding told_walk paren_walk
returns-in-End c = search rules
