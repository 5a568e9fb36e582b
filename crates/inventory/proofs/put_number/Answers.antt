-- `inventory::put_number` meets its contract: its parts, the last first. Assumes nothing.
use mathlib.Core.List.{◌∷◌, []}
use native.Mathlib.Omega.{arith}
use Rattle.tour.specs.Tour.{decimal}
use Rattle.tour.proofs.Digits.{decimal_few}
use Rattle.inventory.specs.Inventory.{number_text}
use Rattle.inventory.proofs.Pieces.{puts_of, puts_join, puts_room, puts_wider}
use borrow.Author.Rules.{rules}
use Rattle.inventory.proofs.put_number.Goals as goal

pub put_decimal-digits-requires : goal.put_decimal-digits-requires
put_decimal-digits-requires c =
    let few = decimal_few 19 c.args.n (search rules) in
    (omega (arith, c.requires.0), search rules)

pub put-requires : goal.put-requires
put-requires c =
    let few = decimal_few 19 c.args.n (search rules) in (
      puts_room (puts_wider (puts_of (decimal c.args.n) c.put_decimal-digits.ensures.n_value
          c.put_decimal-digits.ensures.text_after) 20 few) 1 c.requires.0,
      search rules,
    )

pub returns : goal.returns
unfolding number_text
returns c =
    let few = decimal_few 19 c.args.n (search rules) in
    let digits = puts_wider (puts_of (decimal c.args.n) c.put_decimal-digits.ensures.n_value
    c.put_decimal-digits.ensures.text_after) 20 few in
    puts_join digits c.requires.1 (puts_of (_ ∷ []) c.put.ensures.result_value c.put.ensures.text_after)
