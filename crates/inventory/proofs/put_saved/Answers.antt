-- `inventory::put_saved` meets its contract: its two parts, the last first (`puts_join`), in at most 96 bytes. Assumes nothing.
use native.Mathlib.Omega.{arith}
use Rattle.diagnosis.specs.Diagnosis.{spelled}
use Rattle.inventory.specs.Inventory.{saved_text}
use Rattle.inventory.proofs.Pieces.{puts_of, puts_join, puts_room, puts_wider}
use borrow.Author.Rules.{rules}
use Rattle.inventory.proofs.put_saved.Goals as goal

pub put_word_end-end-requires : goal.put_word_end-end-requires
put_word_end-end-requires c = (omega (arith, c.requires.0), search rules)

pub put_word-requires : goal.put_word-requires
put_word-requires c =
    (puts_room c.put_word_end-end.ensures 8 (omega (arith, c.requires.0)), search rules)

pub returns : goal.returns
unfolding saved_text spelled
returns c =
    puts_wider (puts_join c.put_word_end-end.ensures c.requires.1 (puts_of _ c.put_word.ensures.word_value
    c.put_word.ensures.text_after)) 96 (omega arith)
