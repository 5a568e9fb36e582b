-- `cases::fold_all` meets its contract. The loop's invariant: the numbers passed are folded. Assumes nothing.
use mathlib.Core.Path.{refl}
use Rattle.cases.specs.Folding.{Folds}
use Rattle.cases.proofs.Folded.{fold_next, fold_end}
use Rattle.cases.proofs.fold_all.Goals as goal

pub loop-number-init : goal.loop-number-init
loop-number-init g c = refl

pub loop-number-preserved : goal.loop-number-preserved
loop-number-preserved g c =
    fold_next (Folds g.T.Into.converts) _ _ _ c.loop-number.sum c.loop-number-test.true c.number-item.is c.loop-number.invariant
    (c.into.result, c.into.ensures, c.fold-sum.ensures)

pub returns : goal.returns
returns g c = fold_end (Folds g.T.Into.converts) _ _ _ _ c.loop-number-test.false c.loop-number.invariant
