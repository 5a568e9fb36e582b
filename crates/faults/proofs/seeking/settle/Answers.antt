-- `faults::seeking::settle` meets its contract: the two returns before the end change nothing, and a label put in place keeps those found
-- declared (`found_settled`). Assumes nothing.
use native.Mathlib.Omega.{arith}
use mathlib.Core.Path.{refl}
use lib.ListN.{length-set}
use Rattle.faults.proofs.Using.{filled_word}
use Rattle.faults.proofs.Finding.{found_settled}
use Rattle.faults.proofs.seeking.settle.Goals as goal

pub returns-then-w-eq0 : goal.returns-then-w-eq0
returns-then-w-eq0 c = (record { few = omega arith; long = refl }, λ b text told f. f)

pub returns-then-sought-i : goal.returns-then-sought-i
returns-then-sought-i c = (record { few = omega arith; long = refl }, λ b text told f. f)

pub bounds-sought-m-2 : goal.bounds-sought-m-2
bounds-sought-m-2 c = simp length-set (omega arith)

pub returns : goal.returns
returns c = (
  record { few = omega arith; long = simp length-set },
  λ b text told. found_settled b text c.args.w.now told (filled_word c.args.w.now c.if-w-eq0.false)
      c.args.sought.now c.args.m c.args.i _ _ c.requires.0 c.requires.1 c.key_of-key.ensures,
)
