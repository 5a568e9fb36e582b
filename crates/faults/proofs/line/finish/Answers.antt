-- `faults::line::finish` meets its contract: by the walk. Assumes nothing.
use mathlib.Core.Path.{sym, ap, ◌∙◌}
use Rattle.faults.specs.declared.Walk.{Walk}
use Rattle.faults.specs.Checking.{told_scanned, finish_walk}
use borrow.Author.Rules.{rules}
use Rattle.faults.proofs.line.finish.Goals as goal

pub returns-in-Start : goal.returns-in-Start
unfolding finish_walk
returns-in-Start c = search rules

pub returns-in-Broken : goal.returns-in-Broken
unfolding finish_walk
returns-in-Broken c = search rules

pub returns-in-Mode : goal.returns-in-Mode
unfolding finish_walk
returns-in-Mode c = search rules

pub returns-in-Tests : goal.returns-in-Tests
unfolding finish_walk
returns-in-Tests c =
    c.end_scan.ensures ∙ sym (ap (λ (k : Walk). told_scanned (finish_walk c.args.s.now k)) c.in-Tests.is)

pub returns-in-Then : goal.returns-in-Then
unfolding finish_walk
returns-in-Then c = search rules

pub returns-in-Operations : goal.returns-in-Operations
unfolding finish_walk
returns-in-Operations c =
    c.end_scan-in-Operations.ensures ∙ sym (ap (λ (k : Walk). told_scanned (finish_walk c.args.s.now k)) c.in-Operations.is)

pub returns-in-End : goal.returns-in-End
unfolding finish_walk
returns-in-End c =
    c.end_scan-in-End.ensures ∙ sym (ap (λ (k : Walk). told_scanned (finish_walk c.args.s.now k)) c.in-End.is)
