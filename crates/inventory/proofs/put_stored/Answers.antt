-- `inventory::put_stored` meets its contract: its two parts, the last first (`puts_join`), of the address and the owner that the calls
-- answer. Assumes nothing.
use native.Mathlib.Omega.{arith}
use Rattle.inventory.specs.Inventory.{stored_text}
use Rattle.inventory.proofs.Pieces.{puts_join, puts_room, puts_wider}
use borrow.Author.Rules.{rules}
use Rattle.inventory.proofs.put_stored.Goals as goal

pub overflow_add-address : goal.overflow_add-address
overflow_add-address c = record { fits = omega (arith, c.from.ensures, c.requires.0) }

pub put_content-end-requires : goal.put_content-end-requires
put_content-end-requires c =
    (omega (arith, c.requires.1), search rules)

pub put_start-requires : goal.put_start-requires
put_start-requires c = (
  omega (arith, c.from.ensures, c.requires.0),
  puts_room c.put_content-end.ensures 75 (omega
      (arith, c.requires.1)),
  search rules,
)

pub returns : goal.returns
unfolding stored_text
returns c =
    rw (← c.from.ensures, ← c.owner_of.ensures) (puts_wider (puts_join c.put_content-end.ensures
    c.requires.2 c.put_start.ensures) 96 (omega arith))
