-- `inventory::put_three_end` meets its contract: its parts, the last first. Assumes nothing.
use mathlib.Core.List.{◌∷◌, []}
use native.Mathlib.Omega.{arith}
use Rattle.inventory.specs.Inventory.{three_end}
use Rattle.inventory.proofs.Pieces.{puts_of, puts_join, puts_room}
use borrow.Author.Rules.{rules}
use Rattle.inventory.proofs.put_three_end.Goals as goal

pub put_number-last-requires : goal.put_number-last-requires
put_number-last-requires c =
    (omega (arith, c.put-end.ensures.result_value, c.requires.0), search rules)

pub put_number-middle-requires : goal.put_number-middle-requires
put_number-middle-requires c =
    (puts_room c.put_number-last.ensures 21 (omega (arith, c.put-end.ensures.result_value, c.requires.0)), search rules)

pub put_number-requires : goal.put_number-requires
put_number-requires c = (
  puts_room c.put_number-middle.ensures 21 (puts_room c.put_number-last.ensures 42 (omega
      (arith, c.put-end.ensures.result_value, c.requires.0))),
  search rules,
)

pub returns : goal.returns
unfolding three_end
returns c =
    let one = puts_of (_ ∷ []) c.put-end.ensures.result_value c.put-end.ensures.text_after in
    let two = puts_join one c.requires.1 c.put_number-last.ensures in
    let three = puts_join two c.requires.1 c.put_number-middle.ensures in
    puts_join three c.requires.1 c.put_number.ensures
