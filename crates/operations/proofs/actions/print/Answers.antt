-- `operations::actions::print` meets its contract: 10, 21. Assumes nothing.
use native.Mathlib.Omega.{arith}
use Rattle.operations.specs.Deeds.{meant}
use Rattle.operations.proofs.Answers.{does, stops}
use Rattle.operations.proofs.Doing.{print_many, print_full, print_done}
use Rattle.operations.proofs.actions.print.Goals as goal

pub returns-then-n-gt-PRINTED : goal.returns-then-n-gt-PRINTED
returns-then-n-gt-PRINTED c = stops (print_many _ _ _ _ c.if-n-gt-PRINTED.true)

pub returns-then-room-written : goal.returns-then-room-written
returns-then-room-written c =
    let room = c.requires in
    let full = c.if-room-written.true in
    stops (print_full _ _ _ _ c.if-n-gt-PRINTED.false (omega arith))

pub returns : goal.returns
unfolding meant
returns c = let room = c.requires in
    let there = c.if-room-written.false in
    does _ (print_done _ _ _ _ c.if-n-gt-PRINTED.false (omega arith))
