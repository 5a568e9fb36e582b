-- `inventory::put_content` meets its contract: by the tag. Assumes nothing.
use native.Mathlib.Omega.{arith}
use borrow.Author.Tests.{eq-eqb, ne_eqb}
use Rattle.inventory.specs.Inventory.{is_live_of, content_text}
use Rattle.inventory.proofs.Pieces.{puts_none, puts_join, puts_room}
use borrow.Author.Rules.{rules}
use Rattle.inventory.proofs.put_content.Goals as goal

pub returns-then-tag-eq0 : goal.returns-then-tag-eq0
unfolding content_text is_live_of
returns-then-tag-eq0 c = rw (eq-eqb _ _ c.if-tag-eq0.true) (puts_none _ _ _)

pub returns-then-tag-ne0 : goal.returns-then-tag-ne0
unfolding content_text is_live_of
returns-then-tag-ne0 c = rw (ne_eqb _ _ c.if-tag-eq0.false, ne_eqb _ _ c.if-tag-ne0.true) (puts_none _ _ _)

pub put_word_end-end-requires : goal.put_word_end-end-requires
put_word_end-end-requires c = (omega (arith, c.requires.0), search rules)

pub put_octal-requires : goal.put_octal-requires
put_octal-requires c =
    (puts_room c.put_word_end-end.ensures 5 c.requires.0, search rules)

pub returns : goal.returns
unfolding content_text is_live_of
returns c =
    rw (ne_eqb _ _ c.if-tag-eq0.false, eq-eqb _ _ c.if-tag-ne0.false) (puts_join c.put_word_end-end.ensures c.requires.1
    c.put_octal.ensures)
