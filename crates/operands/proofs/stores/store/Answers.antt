-- `operands::stores::store` meets its contract: a bug's word is replaced, or a field's bits. Assumes nothing.
use native.Mathlib.Omega.{arith}
use Rattle.operands.proofs.Links.{bug_letter, field_reached}
use Rattle.operands.proofs.Numbers.{bug_number}
use Rattle.operands.proofs.Storing.{stored_bug, stored_field}
use borrow.Author.Rules.{rules}
use Rattle.operands.proofs.stores.store.Goals as goal

pub offset_bounds-bugs-i : goal.offset_bounds-bugs-i
offset_bounds-bugs-i c = let letter = bug_letter _ _ _ (bug_number _ c.if-at-lt-FIELDS.true) c.requires.1 in search rules

pub bounds-bugs-i : goal.bounds-bugs-i
bounds-bugs-i c = bug_letter _ _ _ (bug_number _ c.if-at-lt-FIELDS.true) c.requires.1

pub returns-then-at-lt-FIELDS : goal.returns-then-at-lt-FIELDS
returns-then-at-lt-FIELDS c = stored_bug _ _ _ _ _ (bug_number _ c.if-at-lt-FIELDS.true) c.low_bits.ensures

pub bits_of-bits-requires : goal.bits_of-bits-requires
bits_of-bits-requires c = c.if-at-lt-FIELDS.false

pub overflow_sub-offset : goal.overflow_sub-offset
overflow_sub-offset c = (field_reached _ _ _ c.bits_of-bits.ensures.0 c.requires.1).1

pub offset_bounds-storage-offset : goal.offset_bounds-storage-offset
offset_bounds-storage-offset c =
    let (_, _, high) = field_reached _ _ _ c.bits_of-bits.ensures.0 c.requires.1 in
    search rules

pub bounds-storage-offset : goal.bounds-storage-offset
bounds-storage-offset c =
    let (_, low, high) = field_reached _ _ _ c.bits_of-bits.ensures.0 c.requires.1 in
    omega arith

pub store_field-requires : goal.store_field-requires
store_field-requires c =
    (omega (arith, c.requires.0), (field_reached _ _ _ c.bits_of-bits.ensures.0 c.requires.1).0)

pub offset_bounds-storage-offset-2 : goal.offset_bounds-storage-offset-2
offset_bounds-storage-offset-2 c =
    let (_, _, high) = field_reached _ _ _ c.bits_of-bits.ensures.0 c.requires.1 in
    search rules

pub bounds-storage-offset-2 : goal.bounds-storage-offset-2
bounds-storage-offset-2 c =
    let (_, low, high) = field_reached _ _ _ c.bits_of-bits.ensures.0 c.requires.1 in
    omega arith

pub returns : goal.returns
returns c = stored_field _ _ _ _ _ c.bits_of-bits.ensures.0 c.store_field.ensures
