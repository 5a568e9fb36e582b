-- `operands::references::size_after` meets its contract: that of the block delivered, or of one that was there. Assumes nothing.
use mathlib.Core.Path.{sym}
use borrow.Author.Tests.{eq-eqb, ne_eqb}
use Rattle.operands.proofs.references.size_after.Goals as goal

pub returns-then-pointer-from : goal.returns-then-pointer-from
returns-then-pointer-from c = rw (eq-eqb _ _ (sym c.if-pointer-from.true))

pub live_size-requires : goal.live_size-requires
live_size-requires c = c.requires

pub returns : goal.returns
returns c = rw (ne_eqb _ _ (λ z. c.if-pointer-from.false (sym z))) c.live_size.ensures
