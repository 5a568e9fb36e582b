-- `defined::kinds::wrong_row` meets its contract. The invariant: what is left of the rows gives what all give. Assumes nothing.
use Rattle.defined.proofs.Reading.{wrong_first, wrong_rest, wrong_here, wrong_later, wrong_none}
use native.Mathlib.Omega.{arith}
use mathlib.Core.Path.{◌≡◌, refl, ap, sym, ◌∙◌}
use Rattle.table.specs.Row.{rows}
use native.Mathlib.Numerals.{add-one}
use Rattle.defined.specs.Kinds.{row_names, wrong_row}
use Rattle.defined.proofs.kinds.wrong_row.Goals as goal

pub returns-then-kind_at-ne-LINE : goal.returns-then-kind_at-ne-LINE
returns-then-kind_at-ne-LINE c =
    let is = wrong_first c.args.table.now (λ e. c.if-kind_at-ne-LINE.true (c.kind_at.ensures ∙ e)) in (λ none. omega arith, is)

pub loop-r-init : goal.loop-r-init
unfolding rows
loop-r-init c = (omega arith, refl)

pub returns-then-not-row_names : goal.returns-then-not-row_names
returns-then-not-row_names c =
    let table = c.args.table.now in
    let is : c.loop-r.r ≡ wrong_row table = wrong_rest table (sym c.kind_at.ensures ∙ c.if-kind_at-ne-LINE.false)
    (wrong_here table c.loop-r.r (omega arith) (ap (row_names table) (sym c.row_at.ensures)
    ∙ sym c.row_names.ensures ∙ c.if-not-row_names.true) ∙ sym c.loop-r.invariant.1) in
    (λ none. let low = c.loop-r.invariant.0 in omega arith, is)

pub loop-r-preserved : goal.loop-r-preserved
loop-r-preserved c =
    let table = c.args.table.now in (
      omega arith,
      rw add-one (c.loop-r.invariant.1 ∙ wrong_later table c.loop-r.r (omega arith)
          (ap (row_names table) (sym c.row_at.ensures) ∙ sym c.row_names.ensures ∙ c.if-not-row_names.false)),
    )

pub returns : goal.returns
returns c =
    let table = c.args.table.now in
    let is = wrong_rest table (sym c.kind_at.ensures ∙ c.if-kind_at-ne-LINE.false)
    (wrong_none table c.loop-r.r (omega arith) ∙ sym c.loop-r.invariant.1) in λ some. some (sym is)

pub row_at-requires : goal.row_at-requires
row_at-requires c = omega arith
