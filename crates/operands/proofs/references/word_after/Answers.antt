-- `operands::references::word_after` meets its contract: by the location. Assumes nothing.
use native.Mathlib.Omega.{arith}
use Rattle.operands.proofs.Links.{field_reached}
use Rattle.operands.proofs.Numbers.{bug_number}
use Rattle.operands.proofs.Through.{word_bug, word_same, word_other, room_delivered}
use Rattle.operands.proofs.references.word_after.Goals as goal

pub returns-then-at-lt-FIELDS : goal.returns-then-at-lt-FIELDS
returns-then-at-lt-FIELDS c = word_bug _ _ _ _ _ _ c.word_delivered-word.ensures (bug_number _ c.if-at-lt-FIELDS.true)

pub bits_of-bits-requires : goal.bits_of-bits-requires
bits_of-bits-requires c = c.if-at-lt-FIELDS.false

pub store_field-requires : goal.store_field-requires
store_field-requires c =
    (omega (arith, c.requires.0), (field_reached _ _ _ c.bits_of-bits.ensures.0 c.requires.3).0)

pub returns-then-bits-address : goal.returns-then-bits-address
returns-then-bits-address c =
    word_same _ _ _ _ _ _ c.word_delivered-word.ensures c.bits_of-bits.ensures.0 c.if-bits-address.true
    (room_delivered _ _ _ _ c.requires.1 c.requires.2 _ c.requires.4 c.requires.5) c.store_field.ensures

pub returns : goal.returns
returns c =
    word_other _ _ _ _ _ _ c.word_delivered-word.ensures c.bits_of-bits.ensures.0 c.if-bits-address.false
    (field_reached _ _ _ c.bits_of-bits.ensures.0 c.requires.3).1 c.requires.4
