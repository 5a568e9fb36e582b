-- `faults::line::word_step` meets its contract: by the walk. Assumes nothing.
use mathlib.Core.Path.{sym, ap, ◌∙◌}
use Rattle.faults.specs.declared.Walk.{Walk}
use Rattle.faults.specs.Checking.{told_walk, word_walk}
use borrow.Author.Rules.{rules}
use Rattle.faults.proofs.line.word_step.Goals as goal

pub returns-in-Start : goal.returns-in-Start
unfolding word_walk
returns-in-Start c =
    c.first_step.ensures
    ∙ sym (ap (λ (k : Walk). told_walk (word_walk c.args.s.now k c.args.at c.args.end)) c.in-Start.is)

pub returns-in-Broken : goal.returns-in-Broken
unfolding told_walk word_walk
returns-in-Broken c = search rules

pub returns-in-Mode : goal.returns-in-Mode
unfolding word_walk
returns-in-Mode c =
    c.mode_step.ensures
    ∙ sym (ap (λ (k : Walk). told_walk (word_walk c.args.s.now k c.args.at c.args.end)) c.in-Mode.is)

pub returns-in-Tests : goal.returns-in-Tests
unfolding word_walk
returns-in-Tests c =
    c.test_step.ensures
    ∙ sym (ap (λ (k : Walk). told_walk (word_walk c.args.s.now k c.args.at c.args.end)) c.in-Tests.is)

pub returns-in-Then : goal.returns-in-Then
unfolding told_walk word_walk
returns-in-Then c = search rules

pub returns-in-Operations : goal.returns-in-Operations
unfolding word_walk
returns-in-Operations c =
    c.go_step.ensures
    ∙ sym (ap (λ (k : Walk). told_walk (word_walk c.args.s.now k c.args.at c.args.end)) c.in-Operations.is)

pub returns-in-End : goal.returns-in-End
unfolding told_walk word_walk
returns-in-End c = search rules
