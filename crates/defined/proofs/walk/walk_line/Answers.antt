-- `defined::walk::walk_line` meets its contract: the chain walked after the tests is the definition, and an accepted table's rows lie
-- inside it. Assumes nothing.
use Rattle.defined.proofs.Loops.{accepted, next_inside}
use mathlib.Core.Path.{refl, ◌∙◌}
use Rattle.defined.specs.Search.{line_walked}
use Rattle.defined.proofs.walk.walk_line.Goals as goal

pub row-requires : goal.row-requires
row-requires c = c.requires.high

pub walk_tests-requires : goal.walk_tests-requires
walk_tests-requires c =
    let at-args = c.args in
    rw c.row.ensures (next_inside at-args.table.now.numbers.now (accepted at-args.table.now) 1 at-args.l c.requires)

pub walk_chain-requires : goal.walk_chain-requires
walk_chain-requires c = c.requires

pub returns : goal.returns
unfolding line_walked
returns c =
    c.walk_chain.ensures ∙ rw (c.walk_tests.ensures, c.row.ensures) refl
