-- `commit::reports::store_to` meets its contract: by the location and the field's width. Assumes nothing.
use native.Mathlib.Omega.{arith}
use Rattle.operands.proofs.Numbers.{bug_number}
use Rattle.commit.proofs.Turning.{to_bug, to_null, to_field, field_short}
use Rattle.commit.proofs.reports.store_to.Goals as goal

pub returns-then-at-lt-FIELDS : goal.returns-then-at-lt-FIELDS
returns-then-at-lt-FIELDS c = to_bug _ (bug_number _ c.if-at-lt-FIELDS.true) c.no_store.ensures

pub bits_of-bits-requires : goal.bits_of-bits-requires
bits_of-bits-requires c = c.if-at-lt-FIELDS.false

pub width-requires : goal.width-requires
width-requires c = c.bits_of-bits.ensures.2

pub returns-then-width-eq0 : goal.returns-then-width-eq0
returns-then-width-eq0 c =
    to_null _ c.bits_of-bits.ensures.0 c.width.ensures c.if-width-eq0.true
    c.no_store-then-width-eq0.ensures

pub overflow_cast-result : goal.overflow_cast-result
overflow_cast-result c = omega (arith, c.bits_of-bits.ensures.1)

pub overflow_cast-result-2 : goal.overflow_cast-result-2
overflow_cast-result-2 c = omega (arith, c.bits_of-bits.ensures.2)

pub kept_bits-requires : goal.kept_bits-requires
kept_bits-requires c =
    field_short 0 c.bits_of-bits.ensures.0 c.requires

pub returns : goal.returns
returns c =
    to_field _ c.bits_of-bits.ensures.0 c.width.ensures c.if-width-eq0.false c.kept_bits.ensures
