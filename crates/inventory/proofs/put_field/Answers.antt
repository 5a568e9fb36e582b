-- `inventory::put_field` meets its contract: a field not defined puts nothing (`puts_none`), and another its parts, the last first
-- (`puts_join`), in at most 96 bytes. Assumes nothing.
use mathlib.Core.List.{◌∷◌, []}
use native.Mathlib.Omega.{arith}
use borrow.Author.Tests.{not-true, not-false}
use Rattle.diagnosis.specs.Diagnosis.{spelled}
use Rattle.inventory.specs.Inventory.{field_text}
use Rattle.inventory.proofs.Pieces.{puts_none, puts_of, puts_join, puts_room, puts_wider}
use borrow.Author.Rules.{rules}
use Rattle.inventory.proofs.put_field.Goals as goal

pub returns-then-not-x : goal.returns-then-not-x
unfolding field_text
returns-then-not-x c = rw (not-true c.args.x.defined c.if-not-x.true) (puts_none _ _ _)

pub put_three_end-end-requires : goal.put_three_end-end-requires
put_three_end-end-requires c =
    (omega (arith, c.requires.0), search rules)

pub put-name-requires : goal.put-name-requires
put-name-requires c =
    (puts_room c.put_three_end-end.ensures 1 (omega (arith, c.requires.0)), search rules)

pub put_word-requires : goal.put_word-requires
put_word-requires c =
    (omega (arith, c.put-name.ensures.result_value, puts_room c.put_three_end-end.ensures 7 (omega (arith, c.requires.0))), search rules)

pub returns : goal.returns
unfolding field_text spelled
returns c =
    let one = rw (c.from.ensures, c.from-2.ensures, c.from-3.ensures) at c.put_three_end-end.ensures in
    let two = puts_join one c.requires.1 (puts_of (_ ∷ []) c.put-name.ensures.result_value c.put-name.ensures.text_after) in
    let three = puts_join two c.requires.1 (puts_of _ c.put_word.ensures.word_value c.put_word.ensures.text_after) in
    rw (not-false c.args.x.defined c.if-not-x.false, ← c.field_character.ensures) (puts_wider three 96 (omega arith))
