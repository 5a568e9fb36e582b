-- `inventory::put_word_end` meets its contract: its parts, the last first. Assumes nothing.
use mathlib.Core.List.{◌∷◌, []}
use native.Mathlib.Omega.{arith}
use Rattle.inventory.specs.Inventory.{word_end}
use Rattle.inventory.proofs.Pieces.{puts_of, puts_join, puts_room}
use borrow.Author.Rules.{rules}
use Rattle.inventory.proofs.put_word_end.Goals as goal

pub put_octal-digits-requires : goal.put_octal-digits-requires
put_octal-digits-requires c =
    (omega (arith, c.put-end.ensures.result_value, c.requires.0), search rules)

pub put-requires : goal.put-requires
put-requires c =
    (puts_room c.put_octal-digits.ensures 1 (omega (arith, c.put-end.ensures.result_value, c.requires.0)), search rules)

pub returns : goal.returns
unfolding word_end
returns c =
    let one = puts_of (_ ∷ []) c.put-end.ensures.result_value c.put-end.ensures.text_after in
    let two = puts_join one c.requires.1 c.put_octal-digits.ensures in
    puts_join two c.requires.1 (puts_of (_ ∷ []) c.put.ensures.result_value c.put.ensures.text_after)
