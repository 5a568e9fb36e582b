-- `inventory::put_line` meets its contract: its parts, the last first. Assumes nothing.
use native.Mathlib.Omega.{arith}
use Rattle.inventory.proofs.Pieces.{puts_of, puts_join, puts_room, puts_wider}
use borrow.Author.Rules.{rules}
use Rattle.inventory.proofs.put_line.Goals as goal

pub put_three_end-end-requires : goal.put_three_end-end-requires
put_three_end-end-requires c = (omega (arith, c.requires.1), search rules)

pub put_word-requires : goal.put_word-requires
put_word-requires c =
    (puts_room c.put_three_end-end.ensures _ (omega (arith, c.requires.0, c.requires.1)), search rules)

pub returns : goal.returns
returns c =
    let word = puts_of c.args.word.now c.put_word.ensures.word_value c.put_word.ensures.text_after in
    puts_wider (puts_join c.put_three_end-end.ensures c.requires.2 word) 75 (omega (arith, c.requires.0))
