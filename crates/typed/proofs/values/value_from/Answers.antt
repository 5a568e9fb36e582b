-- `typed::values::value_from` meets its contract. The loop's invariant: the bytes left make the value after those passed. Assumes nothing.
use Prim.Native.Nat.{ℕ, ◌+◌, ◌*◌}
use native.Mathlib.Omega.{arith}
use mathlib.Core.Path.{◌≡◌, ap, ap₂}
use lib.ListN.{get_or}
use Rattle.typed.specs.Values.{base_of, digit_as}
use Rattle.typed.proofs.Valuing.{valuing_none, valuing_small, valuing_more, valuing_all}
use Rattle.typed.proofs.values.value_from.Goals as goal

pub loop-x-init : goal.loop-x-init
loop-x-init c = valuing_none _ _ _

pub overflow_mul-v : goal.overflow_mul-v
overflow_mul-v c =
    let small = valuing_small _ _ _ c.loop-x.invariant c.loop-x-test.true in
    let times : c.loop-x.v * c.base_of-base.result ≡ c.loop-x.v * base_of c.args.kind = ap (λ (n : ℕ). c.loop-x.v * n)
    c.base_of-base.ensures in
    omega (arith, c.requires)

pub overflow_add-v : goal.overflow_add-v
overflow_add-v c =
    let small = valuing_small _ _ _ c.loop-x.invariant c.loop-x-test.true in
    let times : c.loop-x.v * c.base_of-base.result ≡ c.loop-x.v * base_of c.args.kind = ap
    (λ (n : ℕ). c.loop-x.v * n) c.base_of-base.ensures in
    omega (arith, c.requires, c.digit_as.ensures)

pub loop-x-preserved : goal.loop-x-preserved
loop-x-preserved c =
    let is : c.loop-x.v * c.base_of-base.result + c.digit_as.result ≡ c.loop-x.v * base_of c.args.kind + digit_as
    c.args.kind (get_or c.args.w.now c.loop-x.x-index 0) = ap₂ (λ (n m : ℕ). c.loop-x.v * n + m)
    c.base_of-base.ensures c.digit_as.ensures in
    rw is (valuing_more _ _ _ c.loop-x.invariant c.loop-x-test.true)

pub returns : goal.returns
returns c = valuing_all _ _ _ c.loop-x.invariant c.loop-x-test.false
