-- `table::references::is_reference` meets its contract. The loop's invariant: what is left is well named exactly when v is a
-- reference, and has at most k + 1 digits. The measure is what is left. Assumes nothing.
use Prim.Native.Nat.{◌^◌}
use native.Mathlib.Omega.{arith}
use mathlib.Core.Path.{◌∙◌, sym}
use borrow.Author.Tests.{le-ltb}
use Rattle.word.proofs.Tests.{known_true, known_false}
use Rattle.table.specs.Reference.{is_reference, names_bug, names_field}
use Rattle.table.proofs.Digits.{is_reference_named, named_last, goes_on, goes_wrong}
use Rattle.table.proofs.references.is_reference.Goals as goal

pub returns-then-v-ge-SIX_DIGITS : goal.returns-then-v-ge-SIX_DIGITS
unfolding is_reference
returns-then-v-ge-SIX_DIGITS c = simp (le-ltb c.args.v (64 ^ 6) (omega arith))

pub loop-rest-init : goal.loop-rest-init
loop-rest-init c = (5, is_reference_named _ c.if-v-ge-SIX_DIGITS.false, c.if-v-ge-SIX_DIGITS.false)

pub returns-then-not-is_name : goal.returns-then-not-is_name
unfolding names_field
returns-then-not-is_name c =
    let loop = c.loop-rest in
    goes_wrong _ loop.invariant.0 loop.rest loop.invariant.1 loop.invariant.2 c.loop-rest-test.true
    (known_false c.is_name.ensures c.if-not-is_name.true-raw)

pub loop-rest-preserved : goal.loop-rest-preserved
unfolding names_field
loop-rest-preserved c =
    let loop = c.loop-rest in
    goes_on _ loop.invariant.0 loop.rest loop.invariant.1 loop.invariant.2 c.loop-rest-test.true
    (known_true c.is_name.ensures c.if-not-is_name.false-raw)

pub returns : goal.returns
unfolding names_bug
returns c =
    let loop = c.loop-rest in
    c.is_name-2.ensures ∙ sym (loop.invariant.1 ∙ named_last loop.invariant.0 loop.rest c.loop-rest-test.false)

pub loop-rest-smaller : goal.loop-rest-smaller
loop-rest-smaller loop-less = omega arith
