-- `operands::stores::bugs_after` meets its contract: one bug's word is replaced, or none. Assumes nothing.
use Rattle.operands.proofs.Numbers.{bug_number, field_number}
use Rattle.operands.proofs.Storing.{bugs_set, bugs_kept, is_bug}
use borrow.Author.Rules.{rules}
use Rattle.operands.proofs.stores.bugs_after.Goals as goal

pub offset_bounds-after-i : goal.offset_bounds-after-i
offset_bounds-after-i c = let letter = is_bug (bug_number _ c.if-at-lt-FIELDS.true) c.requires.1 in search rules

pub bounds-after-i : goal.bounds-after-i
bounds-after-i c = is_bug (bug_number _ c.if-at-lt-FIELDS.true) c.requires.1

pub returns-then-at-lt-FIELDS : goal.returns-then-at-lt-FIELDS
returns-then-at-lt-FIELDS c = bugs_set _ _ _ (bug_number _ c.if-at-lt-FIELDS.true) c.low_bits.ensures

pub returns-else-at-lt-FIELDS : goal.returns-else-at-lt-FIELDS
returns-else-at-lt-FIELDS c = bugs_kept _ _ _ (field_number _ c.if-at-lt-FIELDS.false)
