-- `operands::references::contents_after` meets its contract: a bug's word, or a field's bits. Assumes nothing.
use native.Mathlib.Omega.{arith}
use Rattle.operands.proofs.Links.{bug_letter, field_reached, bug_contents, field_contents}
use Rattle.operands.proofs.Numbers.{bug_number}
use borrow.Author.Rules.{rules}
use Rattle.operands.proofs.references.contents_after.Goals as goal

pub offset_bounds-bugs-i : goal.offset_bounds-bugs-i
offset_bounds-bugs-i c = let letter = bug_letter _ _ _ (bug_number _ c.if-place-lt-FIELDS.true) c.requires.4 in search rules

pub bounds-bugs-i : goal.bounds-bugs-i
bounds-bugs-i c = bug_letter _ _ _ (bug_number _ c.if-place-lt-FIELDS.true) c.requires.4

pub returns-then-place-lt-FIELDS : goal.returns-then-place-lt-FIELDS
returns-then-place-lt-FIELDS c = bug_contents _ _ _ _ (bug_number _ c.if-place-lt-FIELDS.true)

pub bits_of-bits-requires : goal.bits_of-bits-requires
bits_of-bits-requires c = c.if-place-lt-FIELDS.false

pub word_after-word-requires : goal.word_after-word-requires
word_after-word-requires c =
    let place = field_reached _ _ _ c.bits_of-bits.ensures.0 c.requires.4 in
    (c.requires.0, c.requires.1, c.requires.2, c.requires.3, place.1, place.2)

pub read_field-requires : goal.read_field-requires
read_field-requires c =
    (omega (arith, c.requires.0), (field_reached _ _ _ c.bits_of-bits.ensures.0 c.requires.4).0)

pub returns : goal.returns
returns c = field_contents _ _ _ _ c.bits_of-bits.ensures.0 c.word_after-word.ensures c.read_field.ensures
