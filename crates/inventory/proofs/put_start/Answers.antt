-- `inventory::put_start` meets its contract: by the tag. Assumes nothing.
use Prim.Native.Nat.{◌-◌, ◌/◌, ◌%◌}
use native.Mathlib.Omega.{arith}
use borrow.Author.Tests.{eq-eqb, ne_eqb}
use Rattle.block.proofs.Size.{size_pos, size_small}
use Rattle.diagnosis.specs.Diagnosis.{spelled}
use Rattle.inventory.specs.Inventory.{block_line, start_text}
use Rattle.inventory.proofs.Pieces.{puts_none}
use borrow.Author.Rules.{rules}
use Rattle.inventory.proofs.put_start.Goals as goal

pub returns-then-tag-eq0 : goal.returns-then-tag-eq0
unfolding start_text
returns-then-tag-eq0 c = rw (eq-eqb _ _ c.if-tag-eq0.true) (puts_none _ _ _)

pub overflow_add-last : goal.overflow_add-last
overflow_add-last c =
    record { fits = omega (arith, c.size_of-n.ensures, size_small ((c.args.tag - 1) / 2 % 8) (omega arith), c.requires.0) }

pub overflow_sub-last : goal.overflow_sub-last
overflow_sub-last c = omega (arith, c.size_of-n.ensures, size_pos ((c.args.tag - 1) / 2 % 8))

pub put_line-requires : goal.put_line-requires
put_line-requires c =
    (omega arith, c.requires.1, search rules)

pub returns-then-tag-eq0-2 : goal.returns-then-tag-eq0-2
unfolding start_text block_line spelled
returns-then-tag-eq0-2 c =
    rw (ne_eqb _ _ c.if-tag-eq0.false, eq-eqb _ _ c.if-tag-eq0-2.true) (rw c.size_of-n.ensures at c.put_line.ensures)

pub put_line-requires-2 : goal.put_line-requires-2
put_line-requires-2 c =
    (omega arith, c.requires.1, search rules)

pub returns : goal.returns
unfolding start_text block_line spelled
returns c =
    rw (ne_eqb _ _ c.if-tag-eq0.false, ne_eqb _ _ c.if-tag-eq0-2.false) (rw c.size_of-n.ensures at c.put_line-2.ensures)
