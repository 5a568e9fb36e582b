-- `typed::values::Ready::put_group` meets its contract. The loop's invariant: the rows left, put from here on, give the whole. Assumes nothing.
use Prim.Native.Nat.{ℕ, ◌+◌}
use native.Mathlib.Omega.{arith}
use mathlib.Core.Path.{ap, ◌∙◌}
use mathlib.Core.List.{List}
use Rattle.lines.specs.Reading.{split}
use Rattle.lines.proofs.Parts.{part_slice}
use Rattle.faults.specs.Names.{label_row}
use Rattle.faults.proofs.Using.{parens_start, parens_close, parens_only, parens_first}
use Rattle.typed.specs.Putting.{is_group, group_row, group_rows}
use Rattle.typed.proofs.Grouping.{grouping_none, grouping_all, grouping_more}
use Rattle.typed.proofs.values.Ready.put_group.Goals.{in_default-via-in-Some+in_default, in_default-via-in_default}
use Rattle.typed.proofs.values.Ready.put_group.Goals as goal

pub loop-left-init : goal.loop-left-init
unfolding group_rows
loop-left-init c =
    grouping_none c.args.self.now.labels.b (label_row c.args.self.now.labels.b c.args.self.now.labels.text.now) c.args.s.now c.args.g c.args.table.now
    c.requires

pub blanks_end-start-requires : goal.blanks_end-start-requires
blanks_end-start-requires c = (c.loop-left.invariant.parens c.loop-left-test.true).inside

pub token_at-requires : goal.token_at-requires
token_at-requires c =
    parens_start _ _ (c.loop-left.invariant.parens c.loop-left-test.true) c.loop-left-test.true _ c.blanks_end-start.ensures

pub overflow_add-from : goal.overflow_add-from
overflow_add-from c =
    let k = parens_close _ _ (c.loop-left.invariant.parens c.loop-left-test.true) c.loop-left-test.true _
    c.blanks_end-start.ensures (rw c.in-Some-Paren.field-0-is at c.in-Some-Paren.ensures) in omega
    (arith, k.opens, k.closes)

pub overflow_add-row : goal.overflow_add-row
overflow_add-row c =
    let few = c.well_formed.1.1.1.0.1 in omega (arith, c.loop-left.invariant.room)

pub slice_bounds-group_row-count : goal.slice_bounds-group_row-count
slice_bounds-group_row-count c =
    let k = parens_close _ _ (c.loop-left.invariant.parens c.loop-left-test.true) c.loop-left-test.true _
    c.blanks_end-start.ensures (rw c.in-Some-Paren.field-0-is at c.in-Some-Paren.ensures) in
    omega (arith, k.opens, k.closes)

pub slice_bounds-group_row-start : goal.slice_bounds-group_row-start
slice_bounds-group_row-start c =
    let k = parens_close _ _ (c.loop-left.invariant.parens c.loop-left-test.true) c.loop-left-test.true _
    c.blanks_end-start.ensures (rw c.in-Some-Paren.field-0-is at c.in-Some-Paren.ensures) in
    omega (arith, k.opens, k.closes)

pub slice_bounds-group_row-end : goal.slice_bounds-group_row-end
slice_bounds-group_row-end c =
    let k = parens_close _ _ (c.loop-left.invariant.parens c.loop-left-test.true) c.loop-left-test.true _
    c.blanks_end-start.ensures (rw c.in-Some-Paren.field-0-is at c.in-Some-Paren.ensures) in
    omega (arith, k.opens, k.closes)

pub group_row-requires : goal.group_row-requires
group_row-requires c =
    let k = parens_close _ _ (c.loop-left.invariant.parens c.loop-left-test.true) c.loop-left-test.true _
    c.blanks_end-start.ensures (rw c.in-Some-Paren.field-0-is at c.in-Some-Paren.ensures) in
    let proper = parens_first _ _ (c.loop-left.invariant.parens c.loop-left-test.true) c.loop-left-test.true _
    c.blanks_end-start.ensures k in
    ap (λ (w : List ℕ). is_group c.args.self.now.labels.b c.args.g.tests (split w))
    (part_slice (c.blanks_end-start.result + 1) c.in-Some-Paren.close c.args.s.now) ∙ proper

pub put_row-requires : goal.put_row-requires
put_row-requires c =
    omega (arith, c.loop-left.invariant.room, c.loop-left.invariant.long, c.loop-left-test.true)

pub overflow_add-place : goal.overflow_add-place
overflow_add-place c =
    let few = c.well_formed.1.0.1 in let k = parens_close _ _ (c.loop-left.invariant.parens c.loop-left-test.true)
    c.loop-left-test.true _ c.blanks_end-start.ensures (rw c.in-Some-Paren.field-0-is at c.in-Some-Paren.ensures) in
    omega (arith, k.opens, k.closes)

pub overflow_add-row-in-loop-left : goal.overflow_add-row-in-loop-left
overflow_add-row-in-loop-left c =
    let few = c.well_formed.1.1.1.0.1 in omega (arith, c.loop-left.invariant.room, c.loop-left-test.true)

pub loop-left-preserved : goal.loop-left-preserved
loop-left-preserved c =
    let k = parens_close _ _ (c.loop-left.invariant.parens c.loop-left-test.true) c.loop-left-test.true _
    c.blanks_end-start.ensures (rw c.in-Some-Paren.field-0-is at c.in-Some-Paren.ensures) in
    rw c.put_row.ensures
    (grouping_more _ _ _ _ _ _ c.loop-left.invariant c.loop-left-test.true _ c.blanks_end-start.ensures k _ _
    c.following-next.ensures
    (c.group_row.ensures
    ∙ ap (λ (w : List ℕ). group_row c.args.self.now.labels.b (label_row c.args.self.now.labels.b c.args.self.now.labels.text.now) c.args.g.tests
    c.following-next.result (split w))
    (part_slice (c.blanks_end-start.result + 1) c.in-Some-Paren.close c.args.s.now)))

pub shape_of-table : goal.shape_of-table
shape_of-table c = c.loop-left.invariant.long

pub returns : goal.returns
unfolding group_rows
returns c = grouping_all _ _ _ _ _ _ c.loop-left.invariant c.loop-left-test.false

pub unreachable-requires : goal.unreachable-requires
unreachable-requires c =
    parens_only _ _ (c.loop-left.invariant.parens c.loop-left-test.true) c.loop-left-test.true _ c.blanks_end-start.ensures _
    c.token_at.ensures
    (λ close is. elim c.in_default.branch [ in_default-via-in-Some+in_default w ↦ cc | in_default-via-in_default w ↦ cc ])
