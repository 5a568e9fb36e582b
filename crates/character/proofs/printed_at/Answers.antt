-- `character::printed_at` meets its contract. A place is the field's, or in front of it.
-- Assumes nothing.
use mathlib.Core.Path.{sym, ◌∙◌}
use Prim.Native.Nat.{◌-◌}
use native.Mathlib.Omega.{arith}
use borrow.Author.Rules.{rules}
use Rattle.character.specs.Character.{holds}
use Rattle.character.proofs.Digits.{printed_held, printed_blank}
use Rattle.character.proofs.printed_at.Goals as goal

pub digit-requires : goal.digit-requires
unfolding holds
digit-requires c = search rules

pub returns-then-right-holds : goal.returns-then-right-holds
returns-then-right-holds c =
    let a = c.args in
    c.digit.ensures ∙ sym (printed_held a.count a.width a.v a.i _ (omega arith) (omega arith))

pub returns-else-right-holds : goal.returns-else-right-holds
returns-else-right-holds c =
    let a = c.args in
    sym (printed_blank a.count a.width a.v a.i (a.count - 1 - a.i) (omega arith) (omega arith))
