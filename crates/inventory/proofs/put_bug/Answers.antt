-- `inventory::put_bug` meets its contract: a zero word puts nothing (`puts_none`), and another its parts, the last first (`puts_join`), in
-- at most 96 bytes. Assumes nothing.
use mathlib.Core.List.{◌∷◌, []}
use native.Mathlib.Omega.{arith}
use borrow.Author.Tests.{eq-eqb, ne_eqb}
use Rattle.diagnosis.specs.Diagnosis.{spelled}
use Rattle.inventory.specs.Inventory.{bug_text}
use Rattle.inventory.proofs.Pieces.{puts_none, puts_of, puts_join, puts_room, puts_wider}
use borrow.Author.Rules.{rules}
use Rattle.inventory.proofs.put_bug.Goals as goal

pub returns-then-w-eq0 : goal.returns-then-w-eq0
unfolding bug_text
returns-then-w-eq0 c = rw (eq-eqb _ _ c.if-w-eq0.true) (puts_none _ _ _)

pub put_word_end-end-requires : goal.put_word_end-end-requires
put_word_end-end-requires c = (omega (arith, c.requires.1), search rules)

pub put-name-requires : goal.put-name-requires
put-name-requires c =
    (puts_room c.put_word_end-end.ensures 1 (omega (arith, c.requires.1)), search rules)

pub put_word-requires : goal.put_word-requires
put_word-requires c =
    (omega (arith, c.put-name.ensures.result_value, puts_room c.put_word_end-end.ensures 5 (omega (arith, c.requires.1))), search rules)

pub returns : goal.returns
unfolding bug_text spelled
returns c =
    let two = puts_join c.put_word_end-end.ensures c.requires.2 (puts_of (_ ∷ []) c.put-name.ensures.result_value
    c.put-name.ensures.text_after) in
    let three = puts_join two c.requires.2 (puts_of _ c.put_word.ensures.word_value c.put_word.ensures.text_after) in
    rw (ne_eqb _ _ c.if-w-eq0.false) (puts_wider three 96 (omega arith))
