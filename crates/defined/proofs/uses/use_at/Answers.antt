-- `defined::uses::use_at` meets its contract: a line uses nothing, and another row what its pairs do, as its references are well named.
-- Assumes nothing.
use Rattle.defined.proofs.Loops.{accepted, references_at, other_kind}
use Rattle.defined.proofs.Telling.{use_tells, first_is}
use mathlib.Core.Path.{ap, sym, ◌∙◌}
use Rattle.defined.specs.Paths.{fields_of}
use Rattle.defined.specs.Search.{first_in, use_at}
use Rattle.defined.proofs.uses.use_at.Goals as goal

pub returns-then-is_line : goal.returns-then-is_line
unfolding use_at
returns-then-is_line c = use_tells _ _ _ (rw (sym c.is_line.ensures ∙ c.if-is_line.true))

pub row-requires : goal.row-requires
row-requires c = c.requires.1

pub row_use-requires : goal.row_use-requires
row_use-requires c =
    let t = c.args.table.now in
    let other = other_kind t.numbers.now c.args.r (sym c.is_line.ensures ∙ c.if-is_line.false) in
    rw c.row.ensures (references_at t.numbers.now (accepted t) c.args.r c.requires.0 c.requires.1 other)

pub returns : goal.returns
unfolding use_at
returns c =
    let first = first_is _ _ c.row_use.ensures ∙ ap (λ row. first_in (fields_of row) c.args.x) c.row.ensures in
    use_tells _ _ _ (rw (sym c.is_line.ensures ∙ c.if-is_line.false) first)
