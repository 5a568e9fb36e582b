-- `inventory::put_place` meets its contract: the line put is the definition's, and has room in 96 bytes (`puts_wider`). Assumes nothing.
use native.Mathlib.Omega.{arith}
use Rattle.diagnosis.specs.Diagnosis.{spelled}
use Rattle.inventory.specs.Inventory.{place_text}
use Rattle.inventory.proofs.Pieces.{puts_wider}
use borrow.Author.Rules.{rules}
use Rattle.inventory.proofs.put_place.Goals as goal

pub put_line-requires : goal.put_line-requires
put_line-requires c =
    (omega arith, omega (arith, c.requires.0), search rules)

pub returns : goal.returns
unfolding place_text spelled
returns c =
    puts_wider (rw (c.from.ensures, c.from-2.ensures, c.from-3.ensures) at c.put_line.ensures) 96
    (omega arith)
