-- `typed::pairs::moved_row` meets its contract: the values of a field and of it with its names make the row (`moved_made`), and stay below
-- 2^48 (`field_small`, `moved_small`). Assumes nothing.
use mathlib.Core.List.{◌++◌}
use Rattle.word.proofs.Tests.{and_true}
use Rattle.lines.specs.Words.{is_field}
use Rattle.typed.proofs.Valuing.{field_small, moved_small, moved_made}
use Rattle.typed.proofs.pairs.moved_row.Goals as goal

pub value_from-first-requires : goal.value_from-first-requires
value_from-first-requires c =
    field_small _ (and_true (is_field c.args.a.now) (is_field (c.args.a.now ++ c.args.names.now)) c.requires).0

pub value_from-second-requires : goal.value_from-second-requires
value_from-second-requires c =
    moved_small _ _ c.value_from-first.ensures
    (and_true (is_field c.args.a.now) (is_field (c.args.a.now ++ c.args.names.now)) c.requires).1

pub returns : goal.returns
returns c = moved_made _ _ _ _ _ c.value_from-first.ensures c.value_from-second.ensures
