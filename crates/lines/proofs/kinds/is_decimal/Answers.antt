-- `lines::kinds::is_decimal` meets its contract: a decimal literal is a number of base 10 below 2^b (`decimal_number`), as `is_number`
-- tests. Assumes nothing.
use native.Mathlib.Omega.{arith}
use mathlib.Core.Path.{sym, ap, ◌∙◌}
use Prim.Native.Nat.{ℕ}
use Rattle.lines.specs.Walking.{is_number}
use Rattle.lines.proofs.Literals.{decimal_number, some_numbers, wide_enough}
use Rattle.lines.proofs.kinds.is_decimal.Goals as goal

pub is_number-requires : goal.is_number-requires
is_number-requires c = rw c.limit.ensures (some_numbers _, (wide_enough _ c.requires, (omega arith, omega arith)))

pub returns : goal.returns
returns c =
    c.is_number.ensures ∙ ap (λ (n : ℕ). is_number 10 n c.args.w.now) c.limit.ensures
    ∙ sym (decimal_number c.args.b c.args.w.now)
