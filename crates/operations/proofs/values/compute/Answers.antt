-- `operations::values::compute` meets its contract: each arm by what its leaf ensures. Assumes nothing.
use native.Mathlib.Omega.{arith}
use mathlib.Core.Path.{refl}
use Rattle.machine.specs.Operations.{operations, operation_of, makes, difference, quotient}
use Rattle.operations.specs.Plans.{value_of, value_by}
use Rattle.operations.proofs.Made.{made, answered, past, highest}
use Rattle.operations.proofs.values.compute.Goals as goal

pub subtracted-requires : goal.subtracted-requires
subtracted-requires c = (c.requires.0, c.requires.1)

pub count_ones-requires : goal.count_ones-requires
count_ones-requires c = omega (arith, c.width_of.ensures, c.requires.0, c.requires.4)

pub count_zeros-requires : goal.count_zeros-requires
count_zeros-requires c = omega (arith, c.width_of-in-17.ensures, c.requires.0, c.requires.4)

pub leftmost_one-requires : goal.leftmost_one-requires
leftmost_one-requires c = omega (arith, c.width_of-in-18.ensures, c.requires.0, c.requires.4)

pub rightmost_one-requires : goal.rightmost_one-requires
rightmost_one-requires c = omega (arith, c.width_of-in-19.ensures, c.requires.0, c.requires.4)

pub leftmost_zero-requires : goal.leftmost_zero-requires
leftmost_zero-requires c = omega (arith, c.width_of-in-20.ensures, c.requires.0, c.requires.4)

pub rightmost_zero-requires : goal.rightmost_zero-requires
rightmost_zero-requires c = omega (arith, c.width_of-in-21.ensures, c.requires.0, c.requires.4)

pub left_shift-requires : goal.left_shift-requires
left_shift-requires c = omega (arith, c.width_of-in-22.ensures, c.requires.0, c.requires.3)

pub right_shift-requires : goal.right_shift-requires
right_shift-requires c = omega (arith, c.width_of-in-23.ensures, c.requires.0, c.requires.3)

pub blanks_to_zeros-requires : goal.blanks_to_zeros-requires
blanks_to_zeros-requires c = omega (arith, c.requires.0)

pub returns-in-6 : goal.returns-in-6
unfolding value_by value_of operation_of operations makes
returns-in-6 c = made _ _ _ c.in-6.is refl refl

pub returns-in-8 : goal.returns-in-8
unfolding value_by value_of operation_of operations makes
returns-in-8 c = made _ _ _ c.in-8.is c.add.ensures refl

pub returns-in-9 : goal.returns-in-9
unfolding value_by value_of operation_of operations makes difference
returns-in-9 c = answered _ _ _ c.in-9.is c.subtracted.ensures

pub returns-in-10 : goal.returns-in-10
unfolding value_by value_of operation_of operations makes
returns-in-10 c = made _ _ _ c.in-10.is c.multiply.ensures refl

pub returns-in-11 : goal.returns-in-11
unfolding value_by value_of operation_of operations makes quotient
returns-in-11 c = answered _ _ _ c.in-11.is c.divided.ensures

pub returns-in-12 : goal.returns-in-12
unfolding value_by value_of operation_of operations makes
returns-in-12 c = made _ _ _ c.in-12.is c.or.ensures refl

pub returns-in-13 : goal.returns-in-13
unfolding value_by value_of operation_of operations makes
returns-in-13 c = made _ _ _ c.in-13.is c.and.ensures refl

pub returns-in-14 : goal.returns-in-14
unfolding value_by value_of operation_of operations makes
returns-in-14 c = made _ _ _ c.in-14.is c.exclusive_or.ensures refl

pub returns-in-15 : goal.returns-in-15
unfolding value_by value_of operation_of operations makes
returns-in-15 c = made _ _ _ c.in-15.is c.complement.ensures refl

pub returns-in-16 : goal.returns-in-16
unfolding value_by value_of operation_of operations makes
returns-in-16 c = made _ _ _ c.in-16.is (rw c.width_of.ensures at c.count_ones.ensures) refl

pub returns-in-17 : goal.returns-in-17
unfolding value_by value_of operation_of operations makes
returns-in-17 c = made _ _ _ c.in-17.is (rw c.width_of-in-17.ensures at c.count_zeros.ensures) refl

pub returns-in-18 : goal.returns-in-18
unfolding value_by value_of operation_of operations makes
returns-in-18 c = made _ _ _ c.in-18.is (rw c.width_of-in-18.ensures at c.leftmost_one.ensures) refl

pub returns-in-19 : goal.returns-in-19
unfolding value_by value_of operation_of operations makes
returns-in-19 c = made _ _ _ c.in-19.is (rw c.width_of-in-19.ensures at c.rightmost_one.ensures) refl

pub returns-in-20 : goal.returns-in-20
unfolding value_by value_of operation_of operations makes
returns-in-20 c = made _ _ _ c.in-20.is (rw c.width_of-in-20.ensures at c.leftmost_zero.ensures) refl

pub returns-in-21 : goal.returns-in-21
unfolding value_by value_of operation_of operations makes
returns-in-21 c = made _ _ _ c.in-21.is (rw c.width_of-in-21.ensures at c.rightmost_zero.ensures) refl

pub returns-in-22 : goal.returns-in-22
unfolding value_by value_of operation_of operations makes
returns-in-22 c = made _ _ _ c.in-22.is (rw c.width_of-in-22.ensures at c.left_shift.ensures) refl

pub returns-in-23 : goal.returns-in-23
unfolding value_by value_of operation_of operations makes
returns-in-23 c = made _ _ _ c.in-23.is (rw c.width_of-in-23.ensures at c.right_shift.ensures) refl

pub returns-in-26 : goal.returns-in-26
unfolding value_by value_of operation_of operations makes
returns-in-26 c = made _ _ _ c.in-26.is (rw c.width_of-in-26.ensures at c.blanks_to_zeros.ensures) refl

pub returns-in-27 : goal.returns-in-27
unfolding value_by value_of operation_of operations makes
returns-in-27 c = answered _ _ _ c.in-27.is c.binary.ensures

pub returns-in-28 : goal.returns-in-28
unfolding value_by value_of operation_of operations makes
returns-in-28 c = answered _ _ _ c.in-28.is c.binary-in-28.ensures

pub returns-in-29 : goal.returns-in-29
unfolding value_by value_of operation_of operations makes
returns-in-29 c = made _ _ _ c.in-29.is c.from_binary_decimal.ensures refl

pub returns-in-30 : goal.returns-in-30
unfolding value_by value_of operation_of operations makes
returns-in-30 c = made _ _ _ c.in-30.is c.from_binary_octal.ensures refl

pub returns-in_default : goal.returns-in_default
unfolding value_by value_of operation_of operations makes
returns-in_default c = let h = c.requires.5 in
    let r = c.in_default.in_default-own.rest in
    let p7 = past h.low r.0.0.0.0.0.0.0.0.0.0.0.0.0.0.0.0.0.0.0.0.0.1 in
    let p8 = past p7 h.no_interchange in
    let p9 = past p8 r.0.0.0.0.0.0.0.0.0.0.0.0.0.0.0.0.0.0.0.0.1 in
    let p10 = past p9 r.0.0.0.0.0.0.0.0.0.0.0.0.0.0.0.0.0.0.0.1 in
    let p11 = past p10 r.0.0.0.0.0.0.0.0.0.0.0.0.0.0.0.0.0.0.1 in
    let p12 = past p11 r.0.0.0.0.0.0.0.0.0.0.0.0.0.0.0.0.0.1 in
    let p13 = past p12 r.0.0.0.0.0.0.0.0.0.0.0.0.0.0.0.0.1 in
    let p14 = past p13 r.0.0.0.0.0.0.0.0.0.0.0.0.0.0.0.1 in
    let p15 = past p14 r.0.0.0.0.0.0.0.0.0.0.0.0.0.0.1 in
    let p16 = past p15 r.0.0.0.0.0.0.0.0.0.0.0.0.0.1 in
    let p17 = past p16 r.0.0.0.0.0.0.0.0.0.0.0.0.1 in
    let p18 = past p17 r.0.0.0.0.0.0.0.0.0.0.0.1 in
    let p19 = past p18 r.0.0.0.0.0.0.0.0.0.0.1 in
    let p20 = past p19 r.0.0.0.0.0.0.0.0.0.1 in
    let p21 = past p20 r.0.0.0.0.0.0.0.0.1 in
    let p22 = past p21 r.0.0.0.0.0.0.0.1 in
    let p23 = past p22 r.0.0.0.0.0.0.1 in
    let p24 = past p23 r.0.0.0.0.0.1 in
    let p25 = past p24 h.no_input in
    let p26 = past p25 h.no_print in
    let p27 = past p26 r.0.0.0.0.1 in
    let p28 = past p27 r.0.0.0.1 in
    let p29 = past p28 r.0.0.1 in
    let p30 = past p29 r.0.1 in
    let p31 = past p30 r.1 in
    made _ _ _ (highest p31 h.high) c.zeros_to_blanks.ensures refl
