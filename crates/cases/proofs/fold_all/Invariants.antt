use lib.ListN.{take}
use Rattle.std.specs.List.{FoldsTo}
use Rattle.cases.specs.Folding.{Folds}
use Rattle.cases.proofs.fold_all.Given as goal

abbrev pub invariant-loop-number : goal.invariant-loop-number
invariant-loop-number g l = FoldsTo (Folds g.T.Into.converts) l.before (take l.number-index l.numbers) l.sum
