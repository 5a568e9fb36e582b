-- `faults::seeking::learn` meets its contract: the labels collected are known, and with those that `resolve` finds appended they still are.
-- Assumes nothing.
use Prim.Native.Nat.{ℕ}
use mathlib.Core.Path.{sym, subst}
use mathlib.Core.List.{List}
use Rattle.faults.specs.Names.{Found}
use Rattle.lines.proofs.Parts.{part_slice}
use Rattle.faults.proofs.seeking.learn.Goals as goal

pub collect-n-requires : goal.collect-n-requires
collect-n-requires c = c.requires

pub returns-then-n-lt-MOST : goal.returns-then-n-lt-MOST
returns-then-n-lt-MOST c = c.collect-n.ensures

pub returns : goal.returns
returns c = (
  c.append.ensures.0,
  c.append.ensures.1 c.args.b c.args.text.now c.collect-n.ensures.1
      (subst (λ (l : List ℕ). Found c.args.b c.args.text.now l) (sym (part_slice 0 c.resolve-m.result _)) c.resolve-m.ensures.1.1),
)
