-- `columns::turned_words` meets its contract. The loop's invariant: eight bits of i words are added up. Assumes nothing.
use Prim.Native.Nat.{◌/◌, ◌%◌, ◌^◌}
use mathlib.Core.Path.{sym}
use native.Mathlib.Omega.{arith}
use lib.ListN.{get_or}
use Rattle.columns.proofs.Packing.{added_none, added_room, added_more, added_all, spread_small, length_octets}
use Rattle.columns.proofs.Packing.{octets_at}
use borrow.Author.Rules.{rules}
use Rattle.columns.proofs.turned_words.Goals as goal

pub loop-word-init : goal.loop-word-init
loop-word-init c = (omega arith, added_none _)

pub overflow_mul-made : goal.overflow_mul-made
overflow_mul-made c = let long = c.requires.1 in omega (arith, added_room _ c.loop-word.invariant.1 (omega arith))

pub bounds-group-word-index : goal.bounds-group-word-index
bounds-group-word-index c = let long = c.requires.1 in omega arith

pub overflow_shr-word : goal.overflow_shr-word
overflow_shr-word c = let low = c.requires.0 in search rules

pub overflow_add-made : goal.overflow_add-made
overflow_add-made c =
    let long = c.requires.1 in
    omega (
      arith,
      added_room _ c.loop-word.invariant.1 (omega arith),
      spread_small (get_or c.args.group.now c.loop-word.word-index 0 / 2 ^ c.args.right % 256),
      c.spread.ensures,
    )

pub loop-word-preserved : goal.loop-word-preserved
loop-word-preserved c =
    let a = c.args in
    let l = c.loop-word in
    let more = c.loop-word-test.true in
    let long = c.requires.1 in (
      omega arith,
      added_more _ l.invariant.1 (omega (arith, length_octets a.right a.group.now))
          (sym (octets_at a.right a.group.now l.word-index (omega arith))) c.spread.ensures,
    )

pub returns : goal.returns
returns c =
    let a = c.args in
    let over = c.loop-word-test.false in
    let most = c.loop-word.invariant.0 in
    added_all _ c.loop-word.invariant.1 (omega (arith, length_octets a.right a.group.now, c.requires.1))

pub offset_bounds-group-word-index : goal.offset_bounds-group-word-index
offset_bounds-group-word-index c = let long = c.requires.1 in omega arith
