-- `engine::judge` meets its contract: no ill-formed row was found. Assumes nothing.
use borrow.Author.Tests.{not-false}
use Rattle.machine.proofs.Checks.{clash}
use Rattle.table.proofs.Formed.{checked_rows}
use Rattle.engine.proofs.First.{judged_fine}
use Rattle.engine.proofs.judge.Goals as goal

pub returns-then-limit-table : goal.returns-then-limit-table
returns-then-limit-table c = λ k. clash k

pub returns-then-not-has_length : goal.returns-then-not-has_length
returns-then-not-has_length c = λ k. clash k

pub returns : goal.returns
returns c =
    λ k. judged_fine (checked_rows _ _ c.has_length.ensures (not-false _ c.if-not-has_length.false-raw) c.lowest_ill_formed.ensures) k
