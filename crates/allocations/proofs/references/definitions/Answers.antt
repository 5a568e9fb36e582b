-- `allocations::references::definitions` meets its contract. What is set is in range; the measure is the fields left. Assumes nothing.
use Rattle.std.proofs.Common.{◌≡◌, ℕ, ◌%◌, true, refl, arith, lt-ltb, le-leb}
use Rattle.machine.specs.Sound.{every, is_definition, in_range}
use Rattle.machine.proofs.Every.{every_set}
use Rattle.allocations.proofs.references.definitions.Goals as goal

-- remainders are in range
in_range_lem : (word left right : ℕ)
    → is_definition 36 (record { defined = true; word = word % 128; left = left % 36; right = right % 36 }) ≡ true
unfolding is_definition in_range
in_range_lem word left right = rw (le-leb (word % 128) 127 (omega arith), lt-ltb (left % 36) 36 (omega arith), lt-ltb (right % 36) 36 (omega arith)) refl

pub loop-i-init : goal.loop-i-init
unfolding every is_definition
loop-i-init c = refl

pub loop-i-preserved : goal.loop-i-preserved
loop-i-preserved c = every_set (is_definition 36) _ _ _ c.loop-i.invariant (in_range_lem _ _ _)
