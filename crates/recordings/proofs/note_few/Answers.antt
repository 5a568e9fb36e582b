-- `recordings::note_few` meets its contract. The loop's invariant: the pairs hold the standing rows of those passed, and these are few.
-- Assumes nothing.
use Prim.Native.Nat.{◌+◌}
use mathlib.Core.Path.{◌∙◌}
use native.Mathlib.Omega.{arith}
use Rattle.recordings.specs.Recordings.{next_of}
use Rattle.recordings.proofs.Chain.{number_inside, some_row, at_more, at_zero, at_last}
use Rattle.recordings.proofs.Growing.{passing_none, passing_next, passing_all, entering, grown_few, noted_count}
use Rattle.recordings.proofs.Growing.{noted_itself, so_far_most}
use Rattle.recordings.proofs.note_few.Goals as goal

pub number_of-row-requires : goal.number_of-row-requires
number_of-row-requires c =
    number_inside _ c.requires.0 0 0 (some_row _ c.requires.0) (omega arith)

pub loop-i-init : goal.loop-i-init
unfolding next_of
loop-i-init c =
    (rw c.number_of-row.ensures (passing_none _ c.requires.0 c.requires.2), omega arith, omega arith)

pub shape_of-pairs-then-row-eq0 : goal.shape_of-pairs-then-row-eq0
shape_of-pairs-then-row-eq0 c =
    c.loop-i.invariant.0.noted.same_long

pub shape_of-heads-then-row-eq0 : goal.shape_of-heads-then-row-eq0
shape_of-heads-then-row-eq0 c =
    c.loop-i.invariant.0.same_long

pub returns-then-row-eq0 : goal.returns-then-row-eq0
returns-then-row-eq0 c =
    let all = at_zero _ c.loop-i.invariant.0.at c.if-row-eq0.true c.loop-i.invariant.1 in
    record {
      ends = λ _. omega (arith, c.loop-i-test.true);
      noted = λ _. noted_itself (passing_all _ c.requires.0 c.loop-i.invariant.0 all);
      many = λ h. absurd (omega (arith, c.loop-i.invariant.2));
    }

pub enter-count-requires : goal.enter-count-requires
enter-count-requires c =
    let more = at_more _ c.loop-i.invariant.0.at c.if-row-eq0.false c.loop-i-test.true in
    entering _ c.requires.0 c.loop-i.invariant.0 more
    (omega (arith, grown_few c.args.list.now c.requires.0 c.loop-i.invariant.0 more, c.requires.1, c.loop-i.invariant.2))

pub shape_of-pairs-then-count-gt-FEW : goal.shape_of-pairs-then-count-gt-FEW
shape_of-pairs-then-count-gt-FEW c =
    c.enter-count.ensures.noted.same_long ∙ c.loop-i.invariant.0.noted.same_long

pub shape_of-heads-then-count-gt-FEW : goal.shape_of-heads-then-count-gt-FEW
shape_of-heads-then-count-gt-FEW c =
    c.enter-count.ensures.same_long ∙ c.loop-i.invariant.0.same_long

pub returns-then-count-gt-FEW : goal.returns-then-count-gt-FEW
returns-then-count-gt-FEW c =
    let more = at_more _ c.loop-i.invariant.0.at c.if-row-eq0.false c.loop-i-test.true in
    let then = passing_next _ c.requires.0 c.loop-i.invariant.0 more c.enter-count.ensures in
    let many = c.if-count-gt-FEW.true in
    record {
      ends = λ h. absurd (omega arith);
      noted = λ h. absurd (omega arith);
      many = λ _ _. omega (arith, noted_count then.noted, so_far_most c.args.list.now (c.loop-i.i + 1));
    }

pub number_of-row-requires-in-loop-i : goal.number_of-row-requires-in-loop-i
number_of-row-requires-in-loop-i c =
    number_inside _ c.requires.0 _ 0 c.loop-i.invariant.0.at.inside (omega arith)

pub loop-i-preserved : goal.loop-i-preserved
unfolding next_of
loop-i-preserved c =
    let more = at_more _ c.loop-i.invariant.0.at c.if-row-eq0.false c.loop-i-test.true in
    let then = passing_next _ c.requires.0 c.loop-i.invariant.0 more c.enter-count.ensures in
    (rw c.number_of-row-in-loop-i.ensures then, omega arith, omega (arith, c.if-count-gt-FEW.false))

pub shape_of-pairs : goal.shape_of-pairs
shape_of-pairs c =
    c.loop-i.invariant.0.noted.same_long

pub shape_of-heads : goal.shape_of-heads
shape_of-heads c =
    c.loop-i.invariant.0.same_long

pub returns : goal.returns
returns c =
    let all = at_last _ c.loop-i.invariant.0.at c.loop-i-test.false c.loop-i.invariant.1 in
    record {
      ends = λ h. absurd (omega arith);
      noted = λ h. absurd (omega arith);
      many = λ _ h. absurd (omega (arith, c.loop-i-test.false));
    }
