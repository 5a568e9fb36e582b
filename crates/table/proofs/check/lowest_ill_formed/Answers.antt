-- `table::check::lowest_ill_formed` meets its contract: the rows passed are well-formed, so the lowest ill-formed one is at or after r. Assumes nothing.
use native.Mathlib.Numerals.{add-one}
use mathlib.Core.Path.{refl, ap, sym, ◌∙◌}
use Rattle.word.proofs.Tests.{known_true, known_false}
use Rattle.table.specs.Row.{rows}
use Rattle.table.specs.Table.{well_formed}
use native.Mathlib.Omega.{arith}
use Rattle.table.proofs.Formed.{lowest_here, lowest_later, lowest_none}
use Rattle.table.proofs.check.lowest_ill_formed.Goals as goal

pub loop-r-init : goal.loop-r-init
unfolding rows
loop-r-init c = (omega arith, refl)

pub returns-then-not-well_formed : goal.returns-then-not-well_formed
returns-then-not-well_formed c =
    let loop = c.loop-r in
    let start = c.args in
    lowest_here start.b start.table.now loop.r (omega arith)
    (ap (well_formed start.b _ loop.r) (sym c.row_at.ensures) ∙ known_false c.well_formed-in-loop-r.ensures c.if-not-well_formed.true-raw)
    ∙ sym loop.invariant.1

pub loop-r-preserved : goal.loop-r-preserved
loop-r-preserved c =
    let loop = c.loop-r in
    let start = c.args in (
      omega arith,
      rw add-one
          (loop.invariant.1
          ∙ lowest_later start.b start.table.now loop.r (omega arith)
          (ap (well_formed start.b _ loop.r) (sym c.row_at.ensures) ∙ known_true c.well_formed-in-loop-r.ensures c.if-not-well_formed.false-raw)),
    )

pub returns : goal.returns
returns c =
    let loop = c.loop-r in
    let start = c.args in
    lowest_none start.b start.table.now loop.r (omega arith) ∙ sym loop.invariant.1

pub row_at-requires : goal.row_at-requires
row_at-requires row-at-requires = omega arith
