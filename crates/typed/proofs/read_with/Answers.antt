-- `typed::read_with` meets its contract: the labels that `learn` put by are known, so `read_known` answers what is asked. Assumes nothing.
use Prim.Native.Nat.{ℕ, ◌-◌}
use native.Mathlib.Omega.{arith}
use mathlib.Core.Path.{◌≡◌, subst}
use lib.ListN.{take}
use Rattle.faults.specs.Names.{Known}
use Rattle.typed.proofs.read_with.Goals as goal

pub invariant_of-labels : goal.invariant_of-labels
invariant_of-labels c =
    let whole : c.learn-n.result ≡ c.learn-n.result - 0 = omega arith in
    record {
      width = c.requires.0;
      right = subst (λ (n : ℕ). Known c.args.b c.args.text.now (take n c.learn-n.new.room)) whole c.learn-n.ensures.1;
    }

pub returns : goal.returns
returns c = c.read_known.ensures
