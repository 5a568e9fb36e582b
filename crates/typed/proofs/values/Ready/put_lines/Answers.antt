-- `typed::values::Ready::put_lines` meets its contract. The loop's invariant: the rows of the lines left, put from here on, give the whole.
-- Assumes nothing.
use native.Mathlib.Omega.{arith}
use Prim.Native.Nat.{ℕ, ◌-◌}
use mathlib.Core.Path.{◌≡◌, ap}
use lib.Dec.{eqb}
use lib.ListN.{length}
use Rattle.std.specs.Slice.Iter.{split_inclusive_rest}
use Rattle.std.proofs.lemmas.List.Sorted.{answers_always}
use Rattle.faults.proofs.Texting.{first_line}
use Rattle.typed.specs.Looking.{row_at}
use Rattle.typed.proofs.Written.{writing_none, writing_all, writing_room, writing_more}
use borrow.Author.Rules.{rules}
use Rattle.typed.proofs.values.Ready.put_lines.Goals as goal

pub loop-s-init : goal.loop-s-init
loop-s-init c = (search rules, writing_none c.args.self.now.labels.b (row_at c.args.self.now) c.args.self.now.labels.text.now c.args.table.now (search rules) c.requires)

pub overflow_sub-left : goal.overflow_sub-left
overflow_sub-left c =
    let first = first_line c.in-Some.ensures.steps (answers_always _ _ _ (λ f a r g called. search rules)) in
    omega (arith, first.long, c.loop-s.invariant.0)

pub put_line-row-requires : goal.put_line-row-requires
put_line-row-requires c = writing_room _ _ _ _ c.loop-s.invariant.1 (first_line c.in-Some.ensures.steps (answers_always _ _ _ (λ f a r g called. search rules)))

pub loop-s-preserved : goal.loop-s-preserved
loop-s-preserved c =
    let first = first_line c.in-Some.ensures.steps (answers_always _ _ _ (λ f a r g called. search rules)) in
    let left : c.loop-s.left - length c.in-Some.s.now ≡ length (split_inclusive_rest c.next.new.self) = omega (arith, first.long, c.loop-s.invariant.0) in (
      left,
      writing_more _ _ _ _ c.loop-s.invariant.1 first (ap (λ (n : ℕ). eqb n 0) left) c.put_line-row.ensures.0 c.put_line-row.ensures.1,
    )

pub shape_of-table : goal.shape_of-table
shape_of-table c = c.loop-s.invariant.1.long

pub returns : goal.returns
returns c = writing_all _ _ _ _ c.loop-s.invariant.1 c.in-None.ensures.steps.0
