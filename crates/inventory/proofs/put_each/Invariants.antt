use Prim.Native.Nat.{ℕ}
use mathlib.Core.List.{List}
use Rattle.inventory.specs.Puts.{PutsLines}
use Rattle.inventory.proofs.Texts.{Lines}
use Rattle.inventory.proofs.put_each.Given as goal

abbrev pub invariant-loop-left : goal.invariant-loop-left
invariant-loop-left g l =
    (f : ℕ → List ℕ) → PutsLines (goal.F-post g l.put_one) f l.n → Lines f l.n l.at l.initial.text l.left l.place l.text
