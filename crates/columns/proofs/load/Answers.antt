-- `columns::load` meets its contract, check by check. Assumes nothing.
use native.Mathlib.Omega.{arith}
use borrow.Author.Tests.{eqb-true}
use Rattle.word.proofs.Tests.{known_true, known_false}
use Rattle.columns.proofs.Calls.{loading_no_width, loading_uneven, loading_filled, loading_short, loading_done}
use Rattle.word.proofs.Width.{width_range}
use Rattle.columns.proofs.load.Goals as goal

pub returns-then-not-is_width : goal.returns-then-not-is_width
returns-then-not-is_width c =
    let all = loading_no_width _ _ _ _ (known_false c.is_width.ensures c.if-not-is_width.true-raw) in
    record { words_after = all.0; numbered = all.1 }

pub is_whole-requires : goal.is_whole-requires
is_whole-requires c =
    omega (arith, (width_range c.args.b (known_true c.is_width.ensures c.if-not-is_width.false-raw)).0)

pub returns-then-not-is_whole : goal.returns-then-not-is_whole
returns-then-not-is_whole c =
    let all = loading_uneven _ _ _ _ (known_true c.is_width.ensures c.if-not-is_width.false-raw) c.groups_of-groups.ensures
    (known_false c.is_whole.ensures c.if-not-is_whole.true-raw) in
    record { words_after = all.0; numbered = all.1 }

pub filled_with_zeros-requires : goal.filled_with_zeros-requires
filled_with_zeros-requires c =
    let range = width_range c.args.b (known_true c.is_width.ensures c.if-not-is_width.false-raw) in
    (range.0, range.1, eqb-true _ _ (known_true c.is_whole.ensures c.if-not-is_whole.false-raw))

pub returns-then-not-filled_with_zeros : goal.returns-then-not-filled_with_zeros
returns-then-not-filled_with_zeros c =
    let all = loading_filled _ _ _ _ (known_true c.is_width.ensures c.if-not-is_width.false-raw) c.groups_of-groups.ensures
    (known_true c.is_whole.ensures c.if-not-is_whole.false-raw) (known_false c.filled_with_zeros.ensures c.if-not-filled_with_zeros.true-raw) in
    record { words_after = all.0; numbered = all.1 }

pub returns-then-words-n : goal.returns-then-words-n
returns-then-words-n c =
    let all = loading_short _ _ _ _ (known_true c.is_width.ensures c.if-not-is_width.false-raw) c.groups_of-groups.ensures
    (known_true c.is_whole.ensures c.if-not-is_whole.false-raw) (known_true c.filled_with_zeros.ensures c.if-not-filled_with_zeros.false-raw)
    c.if-words-n.true in
    record { words_after = all.0; numbered = all.1 }

pub load_all-requires : goal.load_all-requires
load_all-requires c =
    let range = width_range c.args.b (known_true c.is_width.ensures c.if-not-is_width.false-raw) in (
      range.1,
      eqb-true _ _ (known_true c.is_whole.ensures c.if-not-is_whole.false-raw),
      c.groups_of-groups.ensures,
      c.if-words-n.false,
    )

pub returns : goal.returns
returns c =
    let all = loading_done _ _ _ _ (known_true c.is_width.ensures c.if-not-is_width.false-raw) c.groups_of-groups.ensures
    (known_true c.is_whole.ensures c.if-not-is_whole.false-raw) (known_true c.filled_with_zeros.ensures c.if-not-filled_with_zeros.false-raw)
    c.if-words-n.false c.load_all.ensures in
    record { words_after = all.0; numbered = all.1 }
