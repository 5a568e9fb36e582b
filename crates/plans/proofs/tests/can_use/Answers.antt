-- `plans::tests::can_use` meets its contract: a row is judged, or its kind tells. Assumes nothing.
use borrow.Author.Tests.{not-false}
use Rattle.table.specs.Row.{as_row}
use Rattle.table.proofs.Formed.{missing_low, missing_high}
use Rattle.plans.proofs.Judged.{kind_tells}
use Rattle.plans.proofs.tests.can_use.Goals as goal

pub returns-then-not-judged : goal.returns-then-not-judged
returns-then-not-judged c = c.is_usable.ensures

pub returns-then-r-lt1 : goal.returns-then-r-lt1
returns-then-r-lt1 c = missing_low _ _ _ _ c.if-r-lt1.true

pub returns-then-table-r : goal.returns-then-table-r
returns-then-table-r c = missing_high _ _ _ _ c.if-r-lt1.false c.if-table-r.true

pub returns : goal.returns
unfolding as_row
returns c =
    kind_tells _ _ _ _ (c.requires (not-false _ c.if-not-judged.false-raw)) c.if-r-lt1.false c.if-table-r.false
    c.from_row-row.ensures.0
