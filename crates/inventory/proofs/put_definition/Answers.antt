-- `inventory::put_definition` meets its contract. Each branch is one case of the definition, undefined or defined, in at most 96 bytes
-- (`puts_wider`). Assumes nothing.
use native.Mathlib.Omega.{arith}
use borrow.Author.Tests.{not-true, not-false}
use Rattle.diagnosis.specs.Diagnosis.{spelled}
use Rattle.inventory.specs.Inventory.{definition_text}
use Rattle.inventory.proofs.Pieces.{puts_of, puts_wider}
use borrow.Author.Rules.{rules}
use Rattle.inventory.proofs.put_definition.Goals as goal

pub put_word-requires : goal.put_word-requires
put_word-requires c =
    (omega (arith, c.requires.0), search rules)

pub returns-then-not-x : goal.returns-then-not-x
unfolding definition_text spelled
returns-then-not-x c =
    rw (not-true c.args.x.defined c.if-not-x.true) (puts_wider (puts_of _ c.put_word.ensures.word_value
    c.put_word.ensures.text_after) 96 (omega arith))

pub put_line-requires : goal.put_line-requires
put_line-requires c =
    (omega arith, omega (arith, c.requires.0), search rules)

pub returns : goal.returns
unfolding definition_text spelled
returns c =
    let line = rw (c.from.ensures, c.from-2.ensures, c.from-3.ensures) at c.put_line.ensures in
    rw (not-false c.args.x.defined c.if-not-x.false) (puts_wider line 96 (omega arith))
