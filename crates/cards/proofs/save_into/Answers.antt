-- `cards::save_into` meets its contract. The part lent is as long as asked. Assumes nothing.
use mathlib.Core.Path.{sym}
use lib.Seq.{length-take-le}
use borrow.Author.Rules.{rules}
use Rattle.cards.proofs.save_into.Goals as goal

pub slice_bounds-save-end-2 : goal.slice_bounds-save-end-2
slice_bounds-save-end-2 c = sym (length-take-le _ _ (search rules))
